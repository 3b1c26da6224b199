-- What is put at the front of an output. Only the contracts of inner functions speak of it.
use Rattle.std.specs.Prelude.{◌≡◌, ℕ, ◌+◌, List, length}
use Rattle.std.proofs.Math.Seq.{paste}
use Rattle.sheet_print.specs.declared.front.Front.{Front}

-- the bytes w are put where the front ended, into the same output
pub record Puts (old : Front) (w : List ℕ) (new : Front) : Type 0 where
  pub end : new.end ≡ old.end + length w
  pub put : new.out.now ≡ paste old.out.now old.end w (length w)
  pub same_output : new.out.ghost_name ≡ old.out.ghost_name
