-- A step keeps a record for each of the 32 slots.
use Rattle.std.proofs.Common.{ℕ, Bool, true, false, cond, Some, None, Option}
use Rattle.queue_words.specs.Records.{relabelled, freed, noted, linked}
use Rattle.queue_words.specs.Steps.{slot, stands_at, stand, with_tail, name, unblock, note, link, is_slot, is_blocked_alone, note_if_alone, release_tail, take_if_named, stepped_at, stepped}
use Rattle.queue_words.specs.declared.record.Successor.{Successor}
use Rattle.queue_words.specs.declared.record.Successor.TheVariants.{Reader}
use Rattle.queue_words.specs.declared.standing.Standing.{Standing}
use Rattle.queue_words.specs.declared.standing.Standing.TheVariants.{I, W1, W2, W3, W4, W5, W6, W7, W8, WriterH, V1, V2, V3, V4, V5, V6, R1, R2, R3, R4, R5, R6, R7, R8, R9, R10, R11, R12, R13, ReaderH, E1, E2, E3, E4, E5, E6, E7, E8, E9, E10}
use Rattle.queue_words.specs.declared.words.Words.{Words}
use Rattle.queue_lock.specs.Config.{Full}
use Rattle.queue_lock.specs.View.{full_put}

full_unblock : (w : Words) (o : Option ℕ) → Full w → Full (unblock w o)
full_unblock w None f = f
full_unblock w (Some k) f = full_put w k (freed (slot w k)) f

full_note : (w : Words) (o : Option ℕ) (s : Successor) → Full w → Full (note w o s)
full_note w None s f = f
full_note w (Some k) s f = full_put w k (noted (slot w k) s) f

full_link : (w : Words) (o : Option ℕ) (n : ℕ) → Full w → Full (link w o n)
full_link w None n f = f
full_link w (Some k) n f = full_put w k (linked (slot w k) n) f

either : (b : Bool) (w v : Words) → Full w → Full v → Full (cond b w v)
either true w v f g = f
either false w v f g = g

module _ (w : Words) (i : ℕ) (f : Full w) where
  stood : (s : Standing) → Full (stand w i s)
  stood s = full_put w i (relabelled (slot w i) s) f

  noted_if : (o : Option ℕ) → Full (note_if_alone w i o R5 R7)
  noted_if None = stood R7
  noted_if (Some p) = either (is_blocked_alone (slot w p).state) (note (stand w i R5) (Some p) Reader) (stand w i R7) (full_note (stand w i R5) (Some p) Reader (stood R5)) (stood R7)

  taken_if : (o : Option ℕ) → Full (take_if_named w i o E10 I)
  taken_if None = stood I
  taken_if (Some x) = either (is_slot x w.next_writer) (name (stand w i E10) None) (stand w i I) (stood E10) (stood I)

  released : (s t : Standing) → Full (release_tail w i s t)
  released s t = either (is_slot i w.tail) (with_tail (stand w i s) None) (stand w i t) (stood s) (stood t)

  full_at : (s : Standing) → Full (stepped_at s w i)
  full_at I = f
  full_at W1 = full_put w i _ f
  full_at W2 = stood _
  full_at W3 = stood _
  full_at W4 = stood _
  full_at W5 = full_unblock (stand w i W8) (Some i) (stood W8)
  full_at W6 = full_note _ _ _ (stood _)
  full_at W7 = full_link _ _ i (stood _)
  full_at W8 = stood _
  full_at WriterH = f
  full_at V1 = stood _
  full_at V2 = released _ _
  full_at V3 = stood _
  full_at V4 = stood _
  full_at V5 = stood _
  full_at V6 = full_unblock _ _ (stood _)
  full_at R1 = full_put w i _ f
  full_at R2 = stood _
  full_at R3 = stood _
  full_at R4 = noted_if _
  full_at R5 = full_link _ _ i (stood _)
  full_at R6 = stood _
  full_at R7 = stood _
  full_at R8 = full_link _ _ i (stood _)
  full_at R9 = full_unblock (stand w i R10) (Some i) (stood R10)
  full_at R10 = stood _
  full_at R11 = stood _
  full_at R12 = stood _
  full_at R13 = full_unblock _ _ (stood _)
  full_at ReaderH = f
  full_at E1 = stood _
  full_at E2 = released _ _
  full_at E3 = stood _
  full_at E4 = stood _
  full_at E5 = stood _
  full_at E6 = stood _
  full_at E7 = full_put w i _ f
  full_at E8 = stood _
  full_at E9 = taken_if _
  full_at E10 = full_unblock _ _ (stood _)

  pub full_step : Full (stepped w i)
  full_step = full_at (stands_at w i)
