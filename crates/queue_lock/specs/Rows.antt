-- What a known standing says: all properties of it at once, as equations that the tactics read.
use Rattle.std.specs.Prelude.{◌≡◌, refl}
use Rattle.std.proofs.Common.{sym, subst}
use Rattle.queue_words.specs.declared.standing.Standing.{Standing}
use Rattle.queue_lock.specs.Sets as is

-- the standing s has the properties of the standing a
pub record Row (s a : Standing) : Type 0 where
  pub lining : is.lining s ≡ is.is_lining a
  pub readway : is.readway s ≡ is.is_readway a
  pub writeway : is.writeway s ≡ is.is_writeway a
  pub unlinked : is.unlinked s ≡ is.is_unlinked a
  pub writing : is.writing s ≡ is.is_writing a
  pub reading : is.reading s ≡ is.is_reading a
  pub on : is.on s ≡ is.is_on a
  pub off : is.off s ≡ is.is_off a
  pub wakes : is.wakes s ≡ is.is_wakes a
  pub names : is.names s ≡ is.is_names a
  pub linked : is.linked s ≡ is.is_linked a
  pub keeps : is.keeps s ≡ is.is_keeps a
  pub admitted : is.admitted s ≡ is.is_admitted a
  pub only : is.only s ≡ is.is_only a
  pub waking : is.waking s ≡ is.is_waking a
  pub waiting : is.waiting s ≡ is.is_waiting a
  pub asking : is.asking s ≡ is.is_asking a
  pub asking_first : is.asking_first s ≡ is.is_asking_first a
  pub wanting : is.wanting s ≡ is.is_wanting a
  pub askable : is.askable s ≡ is.is_askable a
  pub followed : is.followed s ≡ is.is_followed a
  pub plain : is.plain s ≡ is.is_plain a
  pub noted : is.noted s ≡ is.is_noted a
  pub behind_reader : is.behind_reader s ≡ is.is_behind_reader a
  pub behind_open : is.behind_open s ≡ is.is_behind_open a
  pub linking : is.linking s ≡ is.is_linking a
  pub arriving : is.arriving s ≡ is.is_arriving a
  pub owing_w : is.owing_w s ≡ is.is_owing_w a
  pub owing_n : is.owing_n s ≡ is.is_owing_n a
  pub owing_r : is.owing_r s ≡ is.is_owing_r a
  pub sleeping : is.sleeping s ≡ is.is_sleeping a
  pub sleeping_w : is.sleeping_w s ≡ is.is_sleeping_w a
  pub sleeping_r : is.sleeping_r s ≡ is.is_sleeping_r a
  pub ending_w : is.ending_w s ≡ is.is_ending_w a
  pub ending_r : is.ending_r s ≡ is.is_ending_r a
  pub counts_two : is.counts_two s ≡ is.is_counts_two a
  pub counts_one : is.counts_one s ≡ is.is_counts_one a
  pub holding : is.holding s ≡ is.is_holding a
  pub handing : is.handing s ≡ is.is_handing a
  pub awaited : is.awaited s ≡ is.is_awaited a
  pub dozing : is.dozing s ≡ is.is_dozing a
  pub looking : is.looking s ≡ is.is_looking a
  pub leaving : is.leaving s ≡ is.is_leaving a
  pub fetching : is.fetching s ≡ is.is_fetching a

pub row : (a : Standing) → Row a a
unfolding is.lining is.readway is.writeway is.unlinked is.writing is.reading is.on is.off is.wakes is.names is.linked is.keeps is.admitted is.only is.waking is.waiting is.asking is.asking_first is.wanting is.askable is.followed is.plain is.noted is.behind_reader is.behind_open is.linking is.arriving is.owing_w is.owing_n is.owing_r is.sleeping is.sleeping_w is.sleeping_r is.ending_w is.ending_r is.counts_two is.counts_one is.holding is.handing is.awaited is.dozing is.looking is.leaving is.fetching
row a = record { lining = refl; readway = refl; writeway = refl; unlinked = refl; writing = refl; reading = refl; on = refl; off = refl; wakes = refl; names = refl; linked = refl; keeps = refl; admitted = refl; only = refl; waking = refl; waiting = refl; asking = refl; asking_first = refl; wanting = refl; askable = refl; followed = refl; plain = refl; noted = refl; behind_reader = refl; behind_open = refl; linking = refl; arriving = refl; owing_w = refl; owing_n = refl; owing_r = refl; sleeping = refl; sleeping_w = refl; sleeping_r = refl; ending_w = refl; ending_r = refl; counts_two = refl; counts_one = refl; holding = refl; handing = refl; awaited = refl; dozing = refl; looking = refl; leaving = refl; fetching = refl }

pub row_of : {s a : Standing} → s ≡ a → Row s a
row_of {s} {a} e = subst (λ x. Row x a) (sym e) (row a)
