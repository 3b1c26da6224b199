-- Small consequences of the invariant: what stands in line, the frontier, and an empty count.
use Rattle.std.specs.List.{list_all}
use Rattle.std.specs.Prelude.{is_some, ◌≡◌, ℕ, suc, ◌<◌, ◌≤◌, Bool, true, false, cond, ◌⊎◌, Some, None, Option, ◌≢◌, refl}
use Rattle.std.proofs.Common.{sym, ap, subst, ◌∙◌, inl, inr, arith}
use Rattle.std.proofs.lemmas.Bool.{both_ways, cases_order, ltb-true, lt-ltb, cases_Bool, cases_lt}
use Rattle.queue_words.specs.declared.standing.Standing.{Standing}
use Rattle.queue_words.specs.declared.standing.Standing.TheVariants.{I}
use Rattle.lock.specs.declared.words.Class.{Class}
use Rattle.lock.specs.declared.words.Class.TheVariants.{Reading, Writing}
use Rattle.queue_words.specs.declared.record.Successor.TheVariants.{Reader, Writer}
use Rattle.queue_words.specs.declared.record.Record.{Record}
use Rattle.queue_lock.specs.Sets as is
use Rattle.queue_lock.specs.Places.{pos}
use Rattle.queue_lock.specs.Config.{Config}
use Rattle.queue_lock.specs.Invariant.{Inv, Front, Alone, Act, In, Next, owes, Pair, share_of, share, next_share}
use Rattle.queue_lock.specs.Every.{for_all, implies, apart}
use Rattle.queue_lock.specs.PlacesInLine.{pos_inj, first_of}
use Rattle.lined_lock.specs.Totals.{total_at}
use Rattle.queue_lock.specs.Sets.{standings}
use Rattle.queue_lock.specs.Shares.{owing_by, share_none}

pub in_line : (w : Config) → Inv w → (s : ℕ) → is.lining (w.at s).standing ≡ true → In w s
in_line w v s h = ltb-true _ _ (sym (v.lined s) ∙ h)

pub lined : (w : Config) → Inv w → (s : ℕ) → In w s → is.lining (w.at s).standing ≡ true
lined w v s h = v.lined s ∙ lt-ltb _ _ h

-- a slot with a standing other than idle is one of the slots
pub near : (w : Config) → Inv w → (f : Standing → Bool) → f I ≡ false → (s : ℕ) → f (w.at s).standing ≡ true → s < 32
near w v f z s h = elim (cases_lt s 32) [ inl k ↦ k | inr k ↦ absurd (both_ways (f I) z (sym (ap f (v.beyond s k)) ∙ h)) ]

-- two slots at the front that are no active readers are one
pub frontier : (w : Config) (x y : ℕ) → Front w x → Front w y → (Act (w.at x) → ⊥) → (Act (w.at y) → ⊥) → x ≡ y
frontier w x y f g a b = elim (cases_order (pos w.line x) (pos w.line y)) [
  | inl e ↦ pos_inj w.line x y e f.inside
  | inr (inl h) ↦ absurd (a (g.ahead x h))
  | inr (inr h) ↦ absurd (b (f.ahead y h))
]

-- nobody stands past a slot that is no active reader and is at the front
pub blocked_not_act : (e : Record) → e.state.blocked ≡ true → Act e → ⊥
blocked_not_act e h a = both_ways e.state.blocked a.free h

pub writer_not_act : (e : Record) → e.class ≡ Writing → Act e → ⊥
writer_not_act e h a = cc (h, a.reads)

-- an active reader has a share
act_label : (l : Standing) → is.lining l ≡ true → is.on l ≡ false → is.writing l ≡ false → cond (is.counts_two l) true (cond (is.counts_one l) true (is.sleeping_r l)) ≡ true
unfolding is.lining is.on is.writing is.counts_two is.counts_one is.sleeping_r
act_label l a b c = let h = for_all (λ x. cond (is.is_lining x) (cond (is.is_on x) true (cond (is.is_writing x) true (cond (is.is_counts_two x) true (cond (is.is_counts_one x) true (is.is_sleeping_r x))))) true) refl l in rw (a, b, c) at h

shared : (e : Record) (n : ℕ) → cond (is.counts_two e.standing) true (cond (is.counts_one e.standing) true (is.sleeping_r e.standing)) ≡ true → e.class ≡ Reading → e.state.blocked ≡ false → 1 ≤ share e n
unfolding share
shared e n h r b = grind arith

pub act_share : (w : Config) → Inv w → (x : ℕ) → In w x → Act (w.at x) → 1 ≤ share_of w x
act_share w v x h a =
    let o : is.on (w.at x).standing ≡ false = elim (cases_Bool (is.on (w.at x).standing)) [ inl q ↦ absurd (both_ways _ a.free ((v.own x).on q)) | inr q ↦ q ] in
    let n : is.writing (w.at x).standing ≡ false = elim (cases_Bool (is.writing (w.at x).standing)) [ inl q ↦ absurd (writer_not_act (w.at x) ((v.own x).writing q) a) | inr q ↦ q ] in
    shared (w.at x) (next_share w (w.at x).next) (act_label (w.at x).standing (lined w v x h) o n) a.reads a.free

way_share : (e : Record) (n : ℕ) → is.counts_two e.standing ≡ false → is.counts_one e.standing ≡ true → 1 ≤ share e n
unfolding share
way_share e n z h = grind arith

-- no count: nobody is in the way, and the front is alone
pub empty_way : (w : Config) → Inv w → w.reader_count ≡ 0 → (t : ℕ) → is.readway (w.at t).standing ≡ false
unfolding is.readway is.counts_one is.counts_two
empty_way w v z t = elim (cases_Bool (is.readway (w.at t).standing)) [
  | inr q ↦ q
  | inl q ↦
      let n = near w v is.readway refl t q in
      let s = way_share (w.at t) (next_share w (w.at t).next) (apart is.is_readway is.is_counts_two refl (w.at t).standing q) (implies is.is_readway is.is_counts_one refl (w.at t).standing q) in
      let k = total_at (share_of w) t 32 n in
      absurd (omega (arith, v.counted))
]

pub empty_alone : (w : Config) → Inv w → w.reader_count ≡ 0 → (x : ℕ) → Front w x → Alone w x
unfolding is.lining
empty_alone w v z x f = record {
  inside = f.inside;
  first = elim (cases_lt 0 (pos w.line x)) [
    | inl h ↦
        let y = first_of w.line (omega (arith, f.inside)) in
        let k : pos w.line y.0 < pos w.line x = omega arith in
        let i : In w y.0 = omega (arith, f.inside) in
        let a = act_share w v y.0 i (f.ahead y.0 k) in
        let b = total_at (share_of w) y.0 32 (near w v is.lining refl y.0 (lined w v y.0 i)) in
        absurd (omega (arith, v.counted))
    | inr h ↦ omega arith
  ];
  clear = f.clear;
  past = empty_way w v z;
}

-- an owed slot waits in line, and is another than its owner
pub owed_in : (w : Config) → Inv w → (p s : ℕ) → owes (w.at p) ≡ true → (w.at p).next ≡ Some s → In w s
unfolding is.sleeping is.lining
owed_in w v p s h q = in_line w v s (implies is.is_sleeping is.is_lining refl (w.at s).standing (v.owed p s h q).standing)

pub owed_apart : (w : Config) → Inv w → (p s : ℕ) → owes (w.at p) ≡ true → (w.at p).next ≡ Some s → s ≢ p
owed_apart w v p s h q z =
    let i = owed_in w v p s h q in
    let n = v.pairs p s ((v.owed p s h q).pred, inr (q, h)) in
    let l = n.line (subst (In w) z i) in
    let e = ap (pos w.line) z in
    omega arith

-- nobody owes a slot twice
pub one_owner : (w : Config) → Inv w → (p q s : ℕ) → owes (w.at p) ≡ true → owes (w.at q) ≡ true → (w.at p).next ≡ Some s → (w.at q).next ≡ Some s → p ≡ q
one_owner w v p q s h k a b = cc ((v.owed p s h a).pred, (v.owed q s k b).pred)

-- a slot that is asked of has a value
pub the_slot : (o : Option ℕ) → is_some o ≡ true → (n : ℕ) × (o ≡ Some n)
the_slot (Some n) h = (n, refl)
the_slot None h = absurd (cc)

pub some_inj : (n m : ℕ) → Some n ≡ Some m → n ≡ m
some_inj n m e = cc

pub class_cases : (c : Class) → (c ≡ Reading) ⊎ (c ≡ Writing)
class_cases Reading = inl refl
class_cases Writing = inr refl

pub one_class : (e : Record) → e.class ≡ Reading → e.class ≢ Writing
one_class e a b = cc (a, b)

-- the slot directly behind an active reader at the front is at the front
pub front_next : (w : Config) (i s : ℕ) → Front w i → Act (w.at i) → pos w.line s ≡ suc (pos w.line i) → In w s → Front w s
front_next w i s f a e h = record {
  inside = h;
  ahead = λ y k. elim (cases_lt (pos w.line y) (pos w.line i)) [
    | inl l ↦ f.ahead y l
    | inr l ↦ let z : pos w.line y ≡ pos w.line i = omega arith in subst (λ x. Act (w.at x)) (sym (pos_inj w.line y i z (omega (arith, f.inside)))) a
  ];
  clear = f.clear;
}

pub waking_keeps : (l : Standing) → is.waking l ≡ true → is.keeps l ≡ true
unfolding is.waking is.keeps
waking_keeps l h = implies is.is_waking is.is_keeps refl l h

pub sleeping_by : (l : Standing) → is.sleeping l ≡ true → (is.sleeping_w l ≡ true) ⊎ (is.sleeping_r l ≡ true)
unfolding is.sleeping is.sleeping_w is.sleeping_r
sleeping_by l h = elim (cases_Bool (is.is_sleeping_w l)) [ inl k ↦ inl k | inr k ↦ inr (let a = implies is.is_sleeping (λ x. cond (is.is_sleeping_w x) true (is.is_sleeping_r x)) refl l h in rw k at a) ]

pub same_place : (w : Config) (x y : ℕ) → pos w.line x ≡ pos w.line y → In w x → x ≡ y
same_place w x y e h = pos_inj w.line x y e h

-- the second of a pair stands in line
pub pair_in : (w : Config) → Inv w → (p s : ℕ) → Pair w p s → In w s
unfolding is.unlinked is.lining
pair_in w v p s q = elim q.1 [ inl u ↦ in_line w v s (implies is.is_unlinked is.is_lining refl (w.at s).standing u) | inr z ↦ owed_in w v p s z.1 z.0 ]

pub askable_writing : (l : Standing) → is.askable l ≡ true → is.writing l ≡ true
unfolding is.askable is.writing
askable_writing l h = implies is.is_askable is.is_writing refl l h

pub nobody : (o : Option ℕ) → is_some o ≡ true → o ≢ None
nobody o h e = both_ways true (sym h ∙ ap is_some e) refl

-- an unlinked slot is blocked and in line
pub unlinked_on : (l : Standing) → is.unlinked l ≡ true → is.on l ≡ true
unfolding is.unlinked is.on
unlinked_on l h = implies is.is_unlinked is.is_on refl l h

pub followed_by : (l : Standing) → is.followed l ≡ true → (is.lining l ≡ true) ⊎ ((is.writeway l ≡ true) ⊎ (is.readway l ≡ true))
unfolding is.followed is.lining is.writeway is.readway
followed_by l h = elim (cases_Bool (is.is_lining l)) [
  | inl a ↦ inl a
  | inr a ↦ elim (cases_Bool (is.is_writeway l)) [
    | inl b ↦ inr (inl b)
    | inr b ↦ inr (inr (let k = implies is.is_followed (λ x. cond (is.is_lining x) true (cond (is.is_writeway x) true (is.is_readway x))) refl l h in rw (a, b) at k))
  ]
]

-- one slot at most stands unlinked behind another
pub one_successor : (w : Config) → Inv w → (s t p : ℕ) → is.unlinked (w.at s).standing ≡ true → is.unlinked (w.at t).standing ≡ true → (w.at s).pred ≡ Some p → (w.at t).pred ≡ Some p → s ≡ t
one_successor w v s t p a b q r =
    let x = v.pairs p s (q, inl a) in
    let y = v.pairs p t (r, inl b) in
    let i = pair_in w v p s (q, inl a) in
    elim (followed_by (w.at p).standing (v.behind s p a q).standing) [
      | inl h ↦ let k = in_line w v p h in same_place w s t (x.line k ∙ sym (y.line k)) i
      | inr (inl h) ↦ same_place w s t (x.writer h ∙ sym (y.writer h)) i
      | inr (inr h) ↦ frontier w s t (x.reader h) (y.reader h) (blocked_not_act _ ((v.own s).on (unlinked_on _ a))) (blocked_not_act _ ((v.own t).on (unlinked_on _ b)))
    ]

-- a blocked reader that is followed has not yet looked behind it
pub arriving : (l : Standing) → is.followed l ≡ true → is.writing l ≡ false → is.off l ≡ false → is.arriving l ≡ true
unfolding is.followed is.writing is.off is.arriving
arriving l a b c = let k = implies is.is_followed (λ x. cond (is.is_writing x) true (cond (is.is_off x) true (is.is_arriving x))) refl l a in rw (b, c) at k

pub not_names : (l : Standing) → is.followed l ≡ true → is.names l ≡ false
unfolding is.followed is.names
not_names l h = apart is.is_followed is.is_names refl l h

pub waking_waits : (l : Standing) → is.waking l ≡ true → is.waiting l ≡ false
unfolding is.waking is.waiting
waking_waits l h = apart is.is_waking is.is_waiting refl l h

pub asking_wants : (l : Standing) → is.asking l ≡ true → is.wanting l ≡ false
unfolding is.asking is.wanting
asking_wants l h = apart is.is_asking is.is_wanting refl l h

pub writeway_writing : (l : Standing) → is.writeway l ≡ true → is.writing l ≡ true
unfolding is.writeway is.writing
writeway_writing l h = implies is.is_writeway is.is_writing refl l h

pub one_after : (e : Record) → e.state.successor ≡ Writer → e.state.successor ≢ Reader
one_after e a b = cc (a, b)

pub not_fetching : (l : Standing) → is.followed l ≡ true → is.fetching l ≡ false
unfolding is.followed is.fetching
not_fetching l h = apart is.is_followed is.is_fetching refl l h

pub not_handing : (l : Standing) → is.followed l ≡ true → is.handing l ≡ false
unfolding is.followed is.handing
not_handing l h = apart is.is_followed is.is_handing refl l h

split_line : (f : Standing → Bool) → list_all (λ l. cond (f l) (cond (is.is_lining l) true (cond (is.is_writeway l) true (is.is_readway l))) true) standings ≡ true → (l : Standing) → f l ≡ true → (is.lining l ≡ true) ⊎ ((is.writeway l ≡ true) ⊎ (is.readway l ≡ true))
unfolding is.lining is.writeway is.readway
split_line f t l h = elim (cases_Bool (is.is_lining l)) [
  | inl a ↦ inl a
  | inr a ↦ elim (cases_Bool (is.is_writeway l)) [
    | inl b ↦ inr (inl b)
    | inr b ↦ inr (inr (let k = implies f (λ x. cond (is.is_lining x) true (cond (is.is_writeway x) true (is.is_readway x))) t l h in rw (a, b) at k))
  ]
]

-- an owing slot is in line or in the way
pub owes_place : (e : Record) → owes e ≡ true → (is.lining e.standing ≡ true) ⊎ ((is.writeway e.standing ≡ true) ⊎ (is.readway e.standing ≡ true))
unfolding is.owing_w is.owing_r is.owing_n
owes_place e h = owing_by e.class e.state.successor e.standing h _ (λ _ k. split_line is.is_owing_w refl e.standing k) (λ _ _ k. split_line is.is_owing_r refl e.standing k) (λ _ _ k. split_line is.is_owing_n refl e.standing k)

-- nobody owes a slot that is alone
pub not_lone : (w : Config) → Inv w → (p s : ℕ) → Alone w s → owes (w.at p) ≡ true → Next w p s → ⊥
not_lone w v p s a h n = elim (owes_place (w.at p) h) [
  | inl k ↦ let l = n.line (in_line w v p k) in omega (arith, a.first)
  | inr (inl k) ↦ both_ways _ (a.clear p) k
  | inr (inr k) ↦ both_ways _ (a.past p) k
]

pub waiting_share : (e : Record) (n : ℕ) → is.waiting e.standing ≡ true → share e n ≡ 0
unfolding is.waiting is.counts_two is.counts_one is.sleeping_r is.handing
waiting_share e n h = share_none e n (apart is.is_waiting is.is_counts_two refl e.standing h) (apart is.is_waiting is.is_counts_one refl e.standing h) (apart is.is_waiting is.is_sleeping_r refl e.standing h) (apart is.is_waiting is.is_handing refl e.standing h)
