use Rattle.sheet_text.specs.Forms.{lock_word, kind_word}
use Rattle.sheet_text.proofs.Forms.{past, word_is, word_as, no_open, named, unnamed, open_read}
use Rattle.sheet_text.proofs.read.open_args.Goals as goal

pub returns-in_err-w : goal.returns-in_err-w
returns-in_err-w c = rw c.from_residual.ensures (no_open _ (λ l s p k left. c.in_err-w.ensures _ _ left))

pub returns-in_err-lock : goal.returns-in_err-lock
returns-in_err-lock c =
    rw c.from_residual-in_err-lock.ensures (no_open _ (λ l s p k left. unnamed lock_word _ c.try_from.result _ c.try_from.ensures c.ok.ensures.value c.in_err-lock.was _ (word_is c.in_ok-w.ensures left)))

pub returns-in_err-slots : goal.returns-in_err-slots
returns-in_err-slots c =
    rw c.from_residual-in_err-slots.ensures (no_open _ (λ l s p k left. c.in_err-slots.ensures _ _ (past c.in_ok-w.ensures left)))

pub returns-in_err-places : goal.returns-in_err-places
returns-in_err-places c =
    rw c.from_residual-in_err-places.ensures (no_open _ (λ l s p k left. c.in_err-places.ensures _ _ (past c.in_ok-slots.ensures (past c.in_ok-w.ensures left))))

pub returns-in_err-v : goal.returns-in_err-v
returns-in_err-v c =
    rw c.from_residual-in_err-v.ensures (no_open _ (λ l s p k left. c.in_err-v.ensures _ _ (past c.in_ok-places.ensures (past c.in_ok-slots.ensures (past c.in_ok-w.ensures left)))))

pub returns-in_err-kind : goal.returns-in_err-kind
returns-in_err-kind c =
    rw c.from_residual-in_err-kind.ensures (no_open _ (λ l s p k left. unnamed kind_word _ c.try_from-2.result _ c.try_from-2.ensures c.ok-2.ensures.value c.in_err-kind.was _ (word_is c.in_ok-v.ensures (past c.in_ok-places.ensures (past c.in_ok-slots.ensures (past c.in_ok-w.ensures left))))))

pub returns : goal.returns
returns c =
    let lock = named lock_word _ c.try_from.result _ _ c.try_from.ensures c.ok.ensures.value c.in_ok-lock.was in
    let kind = named kind_word _ c.try_from-2.result _ _ c.try_from-2.ensures c.ok-2.ensures.value c.in_ok-kind.was in
    open_read _ _ _ _ _ _ c.closes.result _ c.closes.ensures c.then_some.ensures
    (λ left. (word_as lock c.in_ok-w.ensures).to _ (c.in_ok-slots.ensures.to _ (c.in_ok-places.ensures.to _ ((word_as kind c.in_ok-v.ensures).to _ left))))
    (λ l s p k left. past c.in_ok-v.ensures (past c.in_ok-places.ensures (past c.in_ok-slots.ensures (past c.in_ok-w.ensures left))))
