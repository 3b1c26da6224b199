-- From the parts that are left to a form, and back.
use Rattle.std.proofs.Common.{◌≡◌, ℕ, List, ◌∷◌, drop, Some, None, codes, Option, Ok, Err, Result, Bool, true, false, Decides, [], refl, ap, ◌∙◌, ◌≢◌, sym, subst, arith}
use Rattle.std.proofs.lemmas.Bool.{false≢true}
use Rattle.std.proofs.lemmas.Option.{none-some}
use Rattle.std.specs.Bool.{then_some}
use Rattle.std.specs.Result.{result_ok}
use Rattle.refusal.specs.declared.reason.Refusal.{Refusal}
use Rattle.std.specs.List.{AllByRecursion}
use Rattle.sheet_text.specs.declared.form.Form.{Form}
use Rattle.sheet_text.specs.declared.form.Form.TheVariants.{Open}
use Rattle.sheet_text.specs.declared.form.KindName.{KindName}
use Rattle.sheet_text.specs.declared.form.KindName.TheVariants.{Leg, Station}
use Rattle.sheet_text.specs.declared.form.LockName.{LockName}
use Rattle.sheet_text.specs.declared.form.LockName.TheVariants.{Queue, Ticket, Plain}
use Rattle.sheet_text.specs.declared.cursor.Cursor.{Cursor}
use Rattle.sheet_text.specs.Parts.{Part, opening, closing, word, ending, onward}
use Rattle.sheet_text.specs.Cuts.{Good}
use Rattle.sheet_text.specs.Forms.{NamedBy, lock_word, kind_word, name, args, parts, Fits}
use Rattle.sheet_text.specs.Steps.{Left, Next, NotNext, ArgsOf, FormAt}

-- what is left after a part
pub past : {c d : Cursor} {p q : Part} {ps : List Part} → Next c p d → Left c (q ∷ ps) → Left d ps
past {q} {ps} next left = (next.from q ps left).1

same_word : (w v : List ℕ) → word w ≡ word v → w ≡ v
same_word w v e = cc

pub word_is : {c d : Cursor} {w v : List ℕ} {ps : List Part} → Next c (word w) d → Left c (word v ∷ ps) → w ≡ v
word_is {w} {v} {ps} next left = same_word w v (sym (next.from (word v) ps left).0)

pub word_as : {c d : Cursor} {w v : List ℕ} → w ≡ v → Next c (word w) d → Next c (word v) d
word_as {c} {d} e next = subst (λ (x : List ℕ). Next c (word x) d) e next

-- the one form with the word `open`
pub no_open : (c : Cursor) → ((lock : LockName) (slots places : ℕ) (kind : KindName) → Left c (args (Open lock slots places kind)) → ⊥) → ArgsOf (codes "open") c None
no_open c none (Open lock slots places kind) same left = none lock slots places kind left

-- and it is read where nothing but a bracket and the line's end follows its last part
pub open_read : (c d : Cursor) (lock : LockName) (slots places : ℕ) (kind : KindName) (b : Bool) (r : Option Form) → Decides b (Left d (closing ∷ ending ∷ [])) → r ≡ then_some b (Open lock slots places kind) → (Left d (closing ∷ ending ∷ []) → Left c (args (Open lock slots places kind))) → ((l : LockName) (s p : ℕ) (k : KindName) → Left c (args (Open l s p k)) → Left d (closing ∷ ending ∷ [])) → ArgsOf (codes "open") c r
open_read c d lock slots places kind true r closes is to from = rw is (refl, to (closes.0 refl))
open_read c d lock slots places kind false r closes is to from = rw is (no_open c (λ l s p k left. false≢true (closes.1 (from l s p k left))))

-- what `ok` keeps of an answer to a word
pub named : {N : Type 0} (spelled : N → List ℕ) (w : List ℕ) (r : Result N Refusal) (o : Option N) (name : N) → NamedBy spelled w r → o ≡ result_ok r → o ≡ Some name → w ≡ spelled name
named spelled w (Ok n) o name told kept is = told ∙ ap spelled (let e : n ≡ name = cc in e)
named spelled w (Err e) o name told kept is = absurd (none-some name (sym kept ∙ is))

pub unnamed : {N : Type 0} (spelled : N → List ℕ) (w : List ℕ) (r : Result N Refusal) (o : Option N) → NamedBy spelled w r → o ≡ result_ok r → o ≡ None → (name : N) → w ≢ spelled name
unnamed spelled w (Ok n) o told kept is = absurd (none-some n (sym is ∙ kept))
unnamed spelled w (Err e) o told kept is = told.1

lock_good : (l : LockName) → Good (word (lock_word l))
lock_good Queue = (omega arith, search arith)
lock_good Ticket = (omega arith, search arith)
lock_good Plain = (omega arith, search arith)

kind_good : (k : KindName) → Good (word (kind_word k))
kind_good Leg = (omega arith, search arith)
kind_good Station = (omega arith, search arith)

-- the parts of a form whose numbers fit are good
name_good : (f : Form) → Good (word (name f))
name_good (Open lock slots places kind) = (omega arith, search arith)

args_good : (f : Form) → Fits f → AllByRecursion Good (args f)
args_good (Open lock slots places kind) fits = (lock_good lock, (fits.0, (fits.1, (kind_good kind, (tt, (tt, tt))))))

fits_args : (f : Form) → AllByRecursion Good (args f) → Fits f
fits_args (Open lock slots places kind) goods = (goods.1.0, goods.1.1.0)

-- the parts of a whole form are left
whole_left : (c : Cursor) (f : Form) → Fits f → drop c.at c.line.now ≡ onward c.tight (parts f) → Left c (parts f)
whole_left c f fits e = record { here = e; goods = (tt, (name_good f, args_good f fits)) }

pub no_form_here : (b : Cursor) → NotNext b opening → FormAt b None
no_form_here b none f fits e = none _ (whole_left b f fits e)

pub no_form_named : (b c : Cursor) → Next b opening c → ((w : List ℕ) → NotNext c (word w)) → FormAt b None
no_form_named b c first none f fits e = none (name f) _ (past first (whole_left b f fits e))

pub form_from_args : (b c d : Cursor) (w : List ℕ) (r : Option Form) → Next b opening c → Next c (word w) d → ArgsOf w d r → FormAt b r
form_from_args b c d w None first second told = λ f fits e.
    let left = past first (whole_left b f fits e) in
    told f (sym (word_is second left)) (past second left)
form_from_args b c d w (Some f) first second told =
    let left = first.to _ ((word_as (sym told.0) second).to _ told.1) in
    (left.here, fits_args f left.goods.1.1)
