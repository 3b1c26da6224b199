-- R8: a reader that has counted itself links itself behind an active reader, which owes it nothing.
use Rattle.std.proofs.Common.{◌≡◌, ℕ, ◌<◌, true, Some, refl, arith}
use Rattle.std.proofs.lemmas.Bool.{both_ways}
use Rattle.queue_words.specs.declared.standing.Standing.TheVariants.{R8, R9}
use Rattle.queue_lock.specs.Config.{Config}
use Rattle.queue_lock.specs.Invariant.{Inv, owes}
use Rattle.queue_lock.specs.Facts as fact
use Rattle.queue_lock.specs.Join.{join}
use Rattle.queue_lock.specs.Looks.{line_seen, stays, roles as looks-roles}
use Rattle.queue_lock.specs.Move.{Roles, no_unlinked}
use Rattle.queue_lock.specs.Rows.{Row, row, row_of}
use Rattle.queue_lock.specs.Shares.{owing_by}
use Rattle.queue_lock.specs.Turn.{stood, joined}

module _ (w : Config) (i : ℕ) (v : Inv w) (lt : i < 32) (e : (w.at i).standing ≡ R8) (p : ℕ) (q : (w.at i).pred ≡ Some p) where
  o : Row (w.at i).standing R8
  o = row_of e

  roles : Roles w i R9
  roles = let n = row R9 in looks-roles w i R8 R9 v o n refl (line_seen w i R8 R9 v o n (grind (arith, o, n, v.own i)) (λ k h z. both_ways _ o.sleeping (v.owed k i h z).standing) (no_unlinked n.unlinked) (λ _ _. n.arriving) refl refl refl refl)

  free : owes (w.at p) ≡ true → ⊥
  free h =
      let b = v.behind i p o.unlinked q in
      owing_by (w.at p).class (w.at p).state.successor (w.at p).standing h ⊥
      (λ c _. fact.one_class (w.at p) (b.reads o.behind_reader) c)
      (λ _ s _. cc (s, b.plain o.plain))
      (λ _ s _. cc (s, b.plain o.plain))

  pub kept : Inv (joined (stood w i R9) p i)
  kept = join w i p R9 v lt o.unlinked q o.waiting roles (row R9).unlinked (stays w i R8 R9 v o (row R9) refl) (λ h. absurd (free h))
