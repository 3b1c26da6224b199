-- What making a range answers.
use Rattle.std.specs.Prelude.{◌≡◌, ℕ, Ok, Err, Result}
use Rattle.refusal.specs.declared.reason.Refusal.{Refusal}
use Rattle.refusal.specs.declared.reason.Refusal.TheVariants.{OutsideLimits}
use Rattle.range.specs.declared.stretch.Range.{Range}
use Rattle.range.specs.Limits.{Inside}

-- a range is of just these numbers
abbrev pub Spans : ℕ → ℕ → ℕ → Range → Type 0
Spans places first count r = (r.places ≡ places) × (r.first ≡ first) × (r.count ≡ count)

-- a range of just these numbers where they lie inside, else the refusal of number 5
abbrev pub Makes : ℕ → ℕ → ℕ → Result Range Refusal → Type 0
Makes places first count (Ok r) = Spans places first count r
Makes places first count (Err e) = (e ≡ OutsideLimits) × (Inside places first count → ⊥)
