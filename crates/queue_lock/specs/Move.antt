-- A slot moves to another standing, and the count changes with its share: what has to hold of that slot.
use Rattle.std.specs.Prelude.{◌≡◌, ℕ, ◌+◌, ◌<◌, true, false, Some, None, ◌≢◌, refl}
use Rattle.std.proofs.Common.{ap, ◌∙◌, inl, inr}
use Rattle.std.proofs.lemmas.Bool.{both_ways}
use Rattle.queue_words.specs.declared.standing.Standing.{Standing}
use Rattle.lock.specs.declared.words.Class.TheVariants.{Reading, Writing}
use Rattle.queue_words.specs.declared.record.Successor.TheVariants.{Reader}
use Rattle.queue_words.specs.declared.record.Record.{Record}
use Rattle.queue_lock.specs.Sets as is
use Rattle.queue_lock.specs.Config.{Config}
use Rattle.queue_words.specs.Records.{relabelled}
use Rattle.queue_lock.specs.Invariant.{Inv, Own, Front, Alone, In, Waits, Behind, Next, owes, admitted, only, share_of}
use Rattle.queue_lock.specs.Lasts as last
use Rattle.queue_lock.specs.Facts.{owed_apart}
use Rattle.queue_lock.specs.Alter as alter
use Rattle.queue_lock.specs.Alter.{altered, Asked}

abbrev pub moved : Config → ℕ → Standing → ℕ → Config
moved w i l c = altered w i (relabelled (w.at i) l) c

-- slot i is about to wake its w
pub record Waking (w : Config) (i : ℕ) (l : Standing) : Type 0 where
  pub slot : is.waking l ≡ true → (x : ℕ) → (w.at i).w ≡ Some x → (x ≢ i) × (Waits (w.at x) × Alone w x)
  pub none : is.waking l ≡ true → w.next_writer ≡ None
  pub one : is.waking l ≡ true → (t : ℕ) → is.waking (w.at t).standing ≡ true → t ≡ i

pub no_waking : {w : Config} {i : ℕ} {l : Standing} → is.waking l ≡ false → Waking w i l
no_waking {w} {i} {l} z = record { slot = λ h. absurd (both_ways (is.waking l) z h); none = λ h. absurd (both_ways (is.waking l) z h); one = λ h. absurd (both_ways (is.waking l) z h) }

-- slot i is unlinked
abbrev pub Unlinked : Config → ℕ → Standing → Type 0
Unlinked w i l = is.unlinked l ≡ true → (p : ℕ) → (w.at i).pred ≡ Some p → (p ≢ i) × Behind (relabelled (w.at i) l) (w.at p) × (w.tail ≢ Some p) × Next w p i

pub no_unlinked : {w : Config} {i : ℕ} {l : Standing} → is.unlinked l ≡ false → Unlinked w i l
no_unlinked {w} {i} {l} z h = absurd (both_ways (is.unlinked l) z h)

pub was_unlinked : (w : Config) (i : ℕ) (l : Standing) → Inv w → is.unlinked (w.at i).standing ≡ true → ((p : ℕ) → (w.at i).pred ≡ Some p → Behind (w.at i) (w.at p) → Behind (relabelled (w.at i) l) (w.at p)) → Unlinked w i l
was_unlinked w i l v u b h p q = (λ z. v.behind_other i u (q ∙ ap Some z), b p q (v.behind i p u q), v.behind_tail i p u q, v.pairs p i (q, inl u))

pub record Roles (w : Config) (i : ℕ) (l : Standing) : Type 0 where
  pub line : is.lining l ≡ is.lining (w.at i).standing
  pub writeway : is.writeway (w.at i).standing ≡ false → is.writeway l ≡ false
  pub readway : is.readway (w.at i).standing ≡ false → is.readway l ≡ false
  pub own : Own (relabelled (w.at i) l)
  pub fetching : is.fetching l ≡ true → (n : ℕ) → (w.at i).next ≡ Some n → (w.at n).class ≡ Reading
  pub admitted : In w i → admitted (relabelled (w.at i) l) ≡ true → Front w i
  pub only : In w i → (w.at i).class ≡ Writing → only (relabelled (w.at i) l) ≡ true → Alone w i
  pub waking : Waking w i l
  pub woken : (t : ℕ) → (t ≢ i) → is.waking (w.at t).standing ≡ true → (w.at t).w ≡ Some i → is.waiting l ≡ true
  pub waiting : w.next_writer ≡ Some i → is.waiting l ≡ true
  pub asking : is.asking l ≡ true → (x : ℕ) → (w.at i).w ≡ Some x → is.wanting (w.at x).standing ≡ true → (is.askable (w.at x).standing ≡ true) × Asked w l x
  pub apart : is.asking l ≡ true → is.wanting l ≡ false
  pub asked : (t : ℕ) → (t ≢ i) → is.asking (w.at t).standing ≡ true → (w.at t).w ≡ Some i → is.wanting l ≡ true → (is.wanting (w.at i).standing ≡ true) × (is.askable l ≡ true)
  pub unlinked : Unlinked w i l
  pub followed : (s : ℕ) → (s ≢ i) → is.unlinked (w.at s).standing ≡ true → (w.at s).pred ≡ Some i → is.followed l ≡ true
  pub linking : (s : ℕ) → (s ≢ i) → is.linking (w.at s).standing ≡ true → (w.at s).pred ≡ Some i → (w.at i).state.successor ≡ Reader → is.arriving (w.at i).standing ≡ true → is.arriving l ≡ true
  pub owing : owes (relabelled (w.at i) l) ≡ true → owes (w.at i) ≡ true
  pub owed : (p : ℕ) → (p ≢ i) → owes (w.at p) ≡ true → (w.at p).next ≡ Some i → l ≡ (w.at i).standing
  pub ending_w : w.tail ≡ Some i → is.ending_w (w.at i).standing ≡ true → is.ending_w l ≡ true
  pub ending_r : w.tail ≡ Some i → is.ending_r (w.at i).standing ≡ true → is.ending_r l ≡ true

module _ (w : Config) (i : ℕ) (l : Standing) (v : Inv w) (r : Roles w i l) where
  waits : Waits (w.at i) → is.waiting l ≡ true → Waits (relabelled (w.at i) l)
  waits h k = record { standing = k; on = h.on }

  pub roles : alter.Roles w i (relabelled (w.at i) l)
  roles = record {
    class = refl;
    pred = refl;
    line = r.line;
    act = λ a. record { reads = a.reads; free = a.free };
    writeway = r.writeway;
    readway = r.readway;
    own = r.own;
    fetching = r.fetching;
    admitted = r.admitted;
    only = r.only;
    waking = r.waking.slot;
    waking_none = r.waking.none;
    waking_one = r.waking.one;
    asking = r.asking;
    apart = r.apart;
    woken = λ t d h q. waits (v.woken t i h q).0 (r.woken t d h q);
    waiting = λ q. waits (v.named i q).0 (r.waiting q);
    asked = r.asked;
    behind = r.unlinked;
    followed = λ s d u q b. record {
      next = b.next;
      standing = r.followed s d u q;
      plain = b.plain;
      noted = b.noted;
      reads = b.reads;
      free = b.free;
      linking = λ h. elim (b.linking h) [ inl z ↦ inl z | inr z ↦ inr (z.0, r.linking s d h q z.0 z.1) ];
    };
    owing = λ h s q.
        let k = r.owing h in
        let y = v.owed i s k q in
        (owed_apart w v i s k q, record { pred = y.pred; on = y.on; standing = y.standing; writes = y.writes; reads = y.reads }, v.owed_unnamed i s k q, v.pairs i s (y.pred, inr (q, k)));
    owed = λ p d h q y.
        let z = r.owed p d h q in
        record { pred = y.pred; on = y.on; standing = ap is.sleeping z ∙ y.standing; writes = λ a b. ap is.sleeping_w z ∙ y.writes a b; reads = λ a b. ap is.sleeping_r z ∙ y.reads a b };
    tail = λ q. let y = v.tailed i q in (y.next, y.behind, r.ending_w q, r.ending_r q);
  }

  pub relabel : (c : ℕ) → i < 32 → c + share_of w i ≡ w.reader_count + share_of (moved w i l c) i → Inv (moved w i l c)
  relabel c lt count = alter.alter w i (relabelled (w.at i) l) c v roles lt count

  pub lasts : (c : ℕ) → last.Lasts w (moved w i l c)
  lasts c = alter.lasts w i (relabelled (w.at i) l) c v roles

module _ (w : Config) (i : ℕ) (l : Standing) (c : ℕ) where
  pub there : (s : ℕ) → (s ≢ i) → (moved w i l c).at s ≡ w.at s
  there = alter.there w i (relabelled (w.at i) l) c

  pub at_here : (P : Record → Type 0) (s : ℕ) → s ≡ i → P ((moved w i l c).at s) → P (relabelled (w.at i) l)
  at_here = alter.from_here w i (relabelled (w.at i) l) c

  pub at_there : (P : Record → Type 0) (s : ℕ) → (s ≢ i) → P ((moved w i l c).at s) → P (w.at s)
  at_there = alter.from_there w i (relabelled (w.at i) l) c

  pub to_there : (P : Record → Type 0) (s : ℕ) → (s ≢ i) → P (w.at s) → P ((moved w i l c).at s)
  to_there = alter.to_there w i (relabelled (w.at i) l) c
