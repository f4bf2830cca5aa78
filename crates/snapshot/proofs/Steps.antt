-- Answers to a line that is tried at the next stage.
use Rattle.std.proofs.Common.{◌≡◌, ℕ, Bool, true, false, List, Result, IfOk, subst, sym}
use Rattle.std.proofs.lemmas.Result.{IfOk-weaker}
use Rattle.net_types.specs.declared.net.Net.{Net}
use Rattle.snapshot.specs.declared.draft.Draft.{Draft}
use Rattle.snapshot.specs.declared.draft.Stage.{Stage}
use Rattle.snapshot.specs.declared.saved.Saved.{Saved}
use Rattle.snapshot.specs.private.Drafts.{SaysOfLine, Shares, left_at}
use Rattle.snapshot.proofs.Stages1.{Passes, pass_taken, pass_refused}

pub pass_answer : (net : Net) (P Q : Saved → Type 0) (f g : Saved → List (List ℕ)) (l : List ℕ) (d : Draft) → Passes net P f l Q g → (r : Bool) → SaysOfLine net Q g l r d → SaysOfLine net P f l r d
pass_answer net P Q f g l d p true t = pass_taken net P Q f g l d p t
pass_answer net P Q f g l d p false t = pass_refused net P Q f g l p t

pub pass_result : {E : Type 0} (net : Net) (P Q : Saved → Type 0) (f g : Saved → List (List ℕ)) (l : List ℕ) (d : Draft) (r : Result Bool E) → Passes net P f l Q g
    → IfOk r (λ t. SaysOfLine net Q g l t d) → IfOk r (λ t. SaysOfLine net P f l t d)
pass_result net P Q f g l d r p h = IfOk-weaker r (λ t. SaysOfLine net Q g l t d) (λ t. SaysOfLine net P f l t d) (λ t a. pass_answer net P Q f g l d p t a) h

pub at_stage : {E : Type 0} (net : Net) (stage now : Stage) (old : Saved) (l : List ℕ) (d : Draft) (r : Result Bool E) → stage ≡ now → IfOk r (λ t. SaysOfLine net (Shares net now old) (left_at net now) l t d)
    → IfOk r (λ t. SaysOfLine net (Shares net stage old) (left_at net stage) l t d)
at_stage {E} net stage now old l d r e h = subst (λ s. IfOk r (λ t. SaysOfLine net (Shares net s old) (left_at net s) l t d)) (sym e) h
