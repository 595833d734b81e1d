-- There is always room for what is printed of bytes.
use Rattle.std.proofs.Common.{◌≡◌, ◌<◌, ℕ, get_or, arith, refl}
use Rattle.library_text.specs.Serves.{serves}
use Rattle.library_text.proofs.Small.{serves_small}
use Rattle.programs.proofs.Written.{answered_exactly}
use Rattle.librarian.proofs.LibrarianExact.answer.Goals as goal

pub returns : goal.returns
returns c =
    let byte : (i : ℕ) → get_or c.args.text.now i 0 < 256 = λ i. omega (arith, c.type_inv.text i) in
    (answered_exactly (λ said. said ≡ serves c.args.text.now) _ _ _ _ c.serve.ensures refl
    (λ long any. absurd (omega (arith, serves_small c.args.text.now byte, long))))
