-- A run, one line at a time.
use Rattle.std.proofs.Common.{◌≡◌, ℕ, ◌+◌, ◌<◌, List, [], ◌∷◌, ◌++◌, length, get_or, take, sym, ap, ◌∙◌, subst}
use Rattle.std.proofs.lemmas.List.{take_more}
use Rattle.lock.specs.declared.meaning.Lock as lock
use Rattle.lock_runs.specs.Acts.{Acted}
use Rattle.lock_runs.specs.Traces.{Traced, none, more, printed}
use Rattle.lock_runs.specs.declared.line.Line.{Line}

pub begins : {L Label : Type 0} (k : lock.Ghosts L Label) (shows : L → ℕ → List ℕ) (s : L) (out : List ℕ) → out ≡ [] → Traced k shows s [] out s
begins k shows s out e = subst (λ o. Traced k shows s [] o s) (sym e) none

pub goes : {L Label : Type 0} (k : lock.Ghosts L Label) (shows : L → ℕ → List ℕ) (s t u : L) (lines : List Line) (i : ℕ) (l : Line) (out all : List ℕ) → i < length lines → l ≡ get_or lines i l → Traced k shows s (take i lines) out t → Acted k t l.slot.index l.act u → all ≡ out ++ printed k shows t l u → Traced k shows s (take (i + 1) lines) all u
goes k shows s t u lines i l out all h e d a o =
    let step = more (take i lines) out t u l d a in
    let ls : take i lines ++ (l ∷ []) ≡ take (i + 1) lines = ap (λ x. take i lines ++ (x ∷ [])) e ∙ sym (take_more lines i l h) in
    subst (λ o. Traced k shows s (take (i + 1) lines) o u) (sym o) (subst (λ x. Traced k shows s x (out ++ printed k shows t l u) u) ls step)
