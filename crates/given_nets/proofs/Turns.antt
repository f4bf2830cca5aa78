-- A crew one of whose workers has swept.
use Rattle.std.proofs.Common.{◌≡◌, inl, inr, ℕ, ◌<◌, List, length, get_or, set, ap, ◌∙◌, sym, subst, arith}
use Rattle.std.proofs.Math.ListN.{length-set}
use Rattle.std.proofs.lemmas.Bool.{cases_eq}
use Rattle.std.proofs.lemmas.Grind.{get_or-set_at}
use Rattle.std.proofs.lemmas.List.{get_or-set_other, get_or_default}
use Rattle.net_worker.specs.declared.tables.Tables.{Tables}
use Rattle.net_worker.specs.declared.worker.Worker.{Worker}
use Rattle.net_worker.specs.Workers.{IsMadeOf, SameWorker}
use Rattle.worker_run.specs.Crews.{AreMade, AreACrew, AllWhole}
use Rattle.worker_run.specs.private.Sweepings.{IsSweptFrom, AreSwept}
use Rattle.worker_run.proofs.RunLemmas.{same_worker, made_swept, linked_swept, whole_swept}

-- each worker is later, or the same
swept_at : (t : Tables) (ws : List Worker) (at : ℕ) (a b : Worker) → at < length ws → a ≡ get_or ws at a → AreMade t ws → AllWhole t ws → IsMadeOf t b → SameWorker a b
    → (j : ℕ) (d : Worker) → j < length ws → IsSweptFrom t (get_or ws j d) (get_or (set ws at b) j d)
swept_at t ws at a b inside is crew whole made same j d l =
    elim (cases_eq j at) [
      | inl e ↦ (
          let here : a ≡ get_or ws j d = is ∙ (get_or_default ws at a d inside ∙ ap (λ k. get_or ws k d) (sym e)) in
          subst (IsSweptFrom t (get_or ws j d)) (sym (get_or-set_at ws at j b d e (omega arith)))
          (record { made = made; same = subst (λ v. SameWorker v b) here same }))
      | inr n ↦ subst (IsSweptFrom t (get_or ws j d)) (sym (get_or-set_other ws at j b d n)) (record { made = crew.made j d l (whole j d l).not_closed; same = same_worker (get_or ws j d) })
    ]

pub swept_one : (t : Tables) (ws : List Worker) (at : ℕ) (a b : Worker) → at < length ws → a ≡ get_or ws at a → AreMade t ws → AllWhole t ws → IsMadeOf t b → SameWorker a b → AreSwept t ws (set ws at b)
swept_one t ws at a b inside is crew whole made same = record { long = length-set ws at b; each = swept_at t ws at a b inside is crew whole made same }

-- and so the crew is one
pub crew_later : (t : Tables) (ws : List Worker) (at : ℕ) (a b : Worker) → at < length ws → a ≡ get_or ws at a → AreACrew t ws → AllWhole t ws → IsMadeOf t b → SameWorker a b → AreACrew t (set ws at b)
crew_later t ws at a b inside is crew whole made same =
    let swept = swept_one t ws at a b inside is crew.0 whole made same in
    (made_swept t ws (set ws at b) swept crew.0, linked_swept t ws (set ws at b) swept crew.1)

pub whole_later : (t : Tables) (ws : List Worker) (at : ℕ) (a b : Worker) → at < length ws → a ≡ get_or ws at a → AreMade t ws → AllWhole t ws → IsMadeOf t b → SameWorker a b → AllWhole t (set ws at b)
whole_later t ws at a b inside is crew whole made same = whole_swept t ws (set ws at b) (swept_one t ws at a b inside is crew whole made same) whole
