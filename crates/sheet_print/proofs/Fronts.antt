-- Texts put into an output one after another.
use Rattle.std.proofs.Common.{◌≤◌, List, ◌++◌, length, refl, ap, ◌∙◌, arith, length-append, sym}
use Rattle.std.proofs.lemmas.List.Edits.{paste-paste}
use Rattle.std.proofs.Math.Seq.{paste}
use Rattle.sheet_print.specs.Fronts.{Puts}
use Rattle.sheet_print.specs.declared.front.Front.{Front}

-- two texts in turn are put as one
pub both : {a b c : Front} {v w : List _} → a.end ≤ length a.out.now → Puts a v b → Puts b w c → Puts a (v ++ w) c
both {a} {b} {c} {v} {w} inside first second =
    record {
      end = omega (arith, first.end, second.end, length-append v w);
      put = second.put ∙ ap (λ (l : List _). paste l b.end w (length w)) first.put ∙ ap (λ k. paste (paste a.out.now a.end v (length v)) k w (length w)) first.end ∙ paste-paste a.out.now a.end v w (length v) (length w) refl refl inside ∙ ap (λ k. paste a.out.now a.end (v ++ w) k) (sym (length-append v w));
      same_output = second.same_output ∙ first.same_output;
    }
