-- Steps in which a slot takes its own block off.
use Rattle.std.proofs.Common.{◌≡◌, ℕ, true, false, refl, ap, inl}
use Rattle.std.proofs.lemmas.Bool.{both_ways}
use Rattle.queue_words.specs.Records.{relabelled, freed}
use Rattle.queue_words.specs.declared.standing.Standing.{Standing}
use Rattle.queue_words.specs.declared.standing.Standing.TheVariants.{W5, W8, R9, R10}
use Rattle.queue_lock.specs.Config.{Config}
use Rattle.queue_lock.specs.Invariant.{Inv, owes}
use Rattle.queue_lock.specs.Tended.{Tended}
use Rattle.queue_lock.specs.Alter as alter
use Rattle.queue_lock.specs.Alter.{altered}
use Rattle.queue_lock.specs.Calm.{tended, calm_step, owing_still, still_owes}
use Rattle.queue_lock.specs.Followed.{follow}
use Rattle.queue_lock.specs.Untouched.{frees}
use Rattle.queue_lock.specs.LookedAfter.{look}
use Rattle.queue_lock.specs.Minded.{mind}
use Rattle.queue_lock.specs.Rows.{Row, row_of}

module _ (w : Config) (i : ℕ) (a l : Standing) where
  abbrev v : Config
  v = altered w i (freed (relabelled (w.at i) l)) w.reader_count

  here : Row (v.at i).standing l
  here = row_of (ap (λ x. x.standing) (alter.here w i (freed (relabelled (w.at i) l)) w.reader_count))

  owes_freed : Inv w → (w.at i).standing ≡ a → owing_still a l ≡ true → owes (w.at i) ≡ true → owes (v.at i) ≡ true
  owes_freed iv e y q = alter.to_here w i (freed (relabelled (w.at i) l)) w.reader_count (λ x. owes x ≡ true) i refl (still_owes w i a l iv e y q)

  off : (v.at i).state.blocked ≡ false
  off = alter.to_here w i (freed (relabelled (w.at i) l)) w.reader_count (λ x. x.state.blocked ≡ false) i refl refl

pub r9_tends : (w : Config) (i : ℕ) → Inv w → Tended w → (w.at i).standing ≡ R9 → Tended (altered w i (freed (relabelled (w.at i) R10)) w.reader_count)
r9_tends w i iv g e = calm_step w (v w i R9 R10) i R9 R10 iv g (frees w i R10 w.reader_count) (row_of e) (here w i R9 R10) refl refl (λ _ h _ _. inl (owes_freed w i R9 R10 iv e refl h)) inl refl

pub w5_tends : (w : Config) (i : ℕ) → Inv w → Tended w → (w.at i).standing ≡ W5 → Tended (altered w i (freed (relabelled (w.at i) W8)) w.reader_count)
w5_tends w i iv g e =
    let u = v w i W5 W8 in
    let o = row_of e in
    let n = here w i W5 W8 in
    tended w u i g (frees w i W8 w.reader_count) (follow w u i W5 W8 o n refl refl refl)
    (mind w u i W5 W8 o n refl refl (λ _ b. absurd (both_ways _ (off w i W5 W8) b)) (λ _ h _ _. inl (owes_freed w i W5 W8 iv e refl h)))
    (look w u i W5 W8 o n iv refl inl refl refl refl)
