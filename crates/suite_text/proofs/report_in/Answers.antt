-- `suite_text::report_in` meets its contract. Assumes nothing.
use Rattle.suite_text.proofs.report_in.Goals as goal

pub report_on-requires : goal.report_on-requires
report_on-requires c =
    record {
      first_len = c.requires.first_len;
      res_len = c.requires.res_len;
      table_value = c.requires.table_value;
      numbers_value = c.blank.ensures;
    }
