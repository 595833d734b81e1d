-- `finding_clash::finding::clash_node` meets its contract. Assumes nothing.
use Rattle.finding_clash.proofs.Found.{strip_asked, second_low, all_low, push_asked, note_asked, seek_asked, locates}
use Rattle.finding_clash.proofs.finding.clash_node.Goals as goal

pub invariant_of-n : goal.invariant_of-n
invariant_of-n c = record { in_area = all_low _ _ _ _ c.nodes_of-c.ensures c.nodes_of-d.ensures c.number_of-b.ensures c.requires }

pub strip-requires : goal.strip-requires
strip-requires c =
    strip_asked _ _ _ _ c.nodes_of-c.ensures c.nodes_of-d.ensures c.number_of-b.ensures c.requires

pub push_both-requires : goal.push_both-requires
push_both-requires c =
    push_asked _ _ _ _ c.nodes_of-c.ensures c.nodes_of-d.ensures c.number_of-b.ensures c.requires _ c.strip.ensures

pub note_heads-requires : goal.note_heads-requires
note_heads-requires c =
    record {
      b_bound = second_low _ _ _ _ c.nodes_of-c.ensures c.nodes_of-d.ensures c.number_of-b.ensures c.requires;
      notes_asked = note_asked _ _ _ _ c.nodes_of-c.ensures c.nodes_of-d.ensures c.number_of-b.ensures c.requires _ c.strip.ensures _ c.push_both.ensures;
    }

pub first_clash-requires : goal.first_clash-requires
first_clash-requires c =
    record {
      b_bound = second_low _ _ _ _ c.nodes_of-c.ensures c.nodes_of-d.ensures c.number_of-b.ensures c.requires;
      notes_asked = seek_asked _ _ _ _ c.nodes_of-c.ensures c.nodes_of-d.ensures c.number_of-b.ensures c.requires _ c.strip.ensures _ c.push_both.ensures _ c.note_heads.ensures;
    }

pub returns : goal.returns
returns c =
    locates _ _ _ _ c.nodes_of-c.ensures c.nodes_of-d.ensures c.number_of-b.ensures c.requires _ c.strip.ensures _ c.push_both.ensures _ c.note_heads.ensures _ c.first_clash.ensures
