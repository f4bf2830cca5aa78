-- The runs of the trimmed graph are those of the graph.
use Rattle.std.proofs.Common.{◌≡◌, ℕ, ◌+◌, ◌≤◌, List, [], ◌∷◌, length, Option, refl, sym, ◌∙◌, ap, subst, inl, inr}
use Rattle.std.proofs.lemmas.Bool.{cases_lt}
use Rattle.std.proofs.lemmas.List.{length-map, get_or_past}
use Rattle.std.proofs.Math.ListN as list
use Rattle.ir.specs.declared.cfg.CfgBlock.{CfgBlock}
use Rattle.ir.specs.Steps.{through, beginning}
use Rattle.ir.specs.Visits.{Visit, Passage, Passing, next_of, next_visit, AreNext, AreVisits, Finishes, over_visits, strays_of}
use Rattle.ir.specs.Finished.{Finished}
use Rattle.ir.specs.Variables.{VarGraph, IsVarGraph, no_var_block, var_block_at, read_values, written, var_onward, var_passage, steps_made}
use Rattle.block_trim.specs.Trimming.{trimmed_block, trimmed}
use Rattle.block_trim.specs.Shares.{LeadAlike, variables_after, TrimShare}
use Rattle.block_trim.proofs.Passages.{UsesValues, same, written_same, onward_same}
use Rattle.block_trim.proofs.Fits.{uses_values}

-- ---- two graphs whose visits lead alike have the same runs

module _ (f h : Passing) (alike : (v : Visit) → LeadAlike (f v) (h v)) where
  next_same : (v : Visit) → next_visit h v ≡ next_visit f v
  next_same v = ap (λ o. next_of o (h v).arrays) (alike v).onward ∙ ap (next_of (f v).onward) (alike v).arrays

  next_over : (v : Visit) (vs : List Visit) → AreNext f v vs → AreNext h v vs
  next_over v [] n = tt
  next_over v (w ∷ ws) n = (next_same v ∙ n.0, next_over w ws n.1)

  pub visits_over : (first : Visit) (vs : List Visit) → AreVisits f first vs → AreVisits h first vs
  visits_over first [] n = tt
  visits_over first (v ∷ vs) n = (n.0, next_over v vs n.1)

  pub ends_over : (v : Visit) (rest : List Visit) (r : Option ℕ) (arrays : List (List ℕ)) → Finishes f v rest r arrays → Finishes h v rest r arrays
  ends_over v [] r arrays e = record { result = (alike v).onward ∙ e.result; last_arrays = (alike v).arrays ∙ e.last_arrays }
  ends_over v (w ∷ ws) r arrays e = (next_same v ∙ e.0, ends_over w ws r arrays e.1)

  strays_over : (vs : List Visit) → strays_of h vs ≡ strays_of f vs
  strays_over [] = refl
  strays_over (v ∷ vs) = ap (λ k. k + strays_of h vs) (alike v).strays ∙ ap (λ k. (f v).strays + k) (strays_over vs)

  cost_over : (c d : Visit → ℕ) → ((v : Visit) → d v ≡ c v) → (vs : List Visit) → over_visits d vs ≡ over_visits c vs
  cost_over c d e [] = refl
  cost_over c d e (v ∷ vs) = ap (λ k. k + over_visits d vs) (e v) ∙ ap (λ k. c v + k) (cost_over c d e vs)

  pub runs_over : (c d : Visit → ℕ) → ((v : Visit) → d v ≡ c v) → (first : Visit) (r : Option ℕ) (arrays : List (List ℕ)) (more most : ℕ)
      → Finished f first r arrays c more most → Finished h first r arrays d more most
  runs_over c d e first r arrays more most x = record {
    rest = x.rest;
    ends = ends_over first x.rest r arrays x.ends;
    clean = strays_over (first ∷ x.rest) ∙ x.clean;
    few = x.few;
    cheap = subst (λ k. k ≤ most) (sym (cost_over c d e (first ∷ x.rest))) x.cheap;
  }

-- ---- passages

pub block_at_trimmed : (g : VarGraph) (k : ℕ) → var_block_at (trimmed g) k ≡ trimmed_block (var_block_at g k)
block_at_trimmed g k = list.get_or-map trimmed_block g.blocks k no_var_block

abbrev by_block : CfgBlock → List ℕ → List (List ℕ) → Passage
by_block x vars arrays =
    let w = through x.steps (beginning (read_values vars x) arrays) in
    record { values = w.values; arrays = w.arrays; strays = w.strays; onward = var_onward x.jump w.values (written w.values x.writes vars) }

abbrev after_block : CfgBlock → List ℕ → List (List ℕ) → List ℕ
after_block x vars arrays = written (through x.steps (beginning (read_values vars x) arrays)).values x.writes vars

nothing_used : UsesValues no_var_block
nothing_used = record { steps = tt; writes = tt; jump = tt }

module _ (g : VarGraph) (fine : IsVarGraph g) where
  names_at : (k : ℕ) → UsesValues (var_block_at g k)
  names_at k = elim (cases_lt k (length g.blocks)) [
    | inl lt ↦ uses_values g (var_block_at g k) (fine.blocks k no_var_block lt)
    | inr ge ↦ subst UsesValues (sym (get_or_past g.blocks k no_var_block ge)) nothing_used
  ]

  lead_alike : (v : Visit) → LeadAlike (var_passage g v) (var_passage (trimmed g) v)
  lead_alike v =
      let b = var_block_at g v.block in
      let u = names_at v.block in
      let s = same b v.given v.arrays u in
      let alike : LeadAlike (by_block b v.given v.arrays) (by_block (trimmed_block b) v.given v.arrays) = record { onward = onward_same b v.given v.arrays u; arrays = s.arrays; strays = s.strays } in
      subst (λ x. LeadAlike (by_block b v.given v.arrays) (by_block x v.given v.arrays)) (sym (block_at_trimmed g v.block)) alike

  same_variables : (v : Visit) → variables_after (trimmed g) v ≡ variables_after g v
  same_variables v =
      let b = var_block_at g v.block in
      ap (λ x. after_block x v.given v.arrays) (block_at_trimmed g v.block) ∙ written_same b v.given v.arrays (names_at v.block)

  same_steps : (v : Visit) → steps_made (trimmed g) v ≡ steps_made g v
  same_steps v = ap (λ (x : CfgBlock). length x.steps) (block_at_trimmed g v.block) ∙ length-map (var_block_at g v.block).steps _

  back : (v : Visit) → LeadAlike (var_passage (trimmed g) v) (var_passage g v)
  back v = record { onward = sym (lead_alike v).onward; arrays = sym (lead_alike v).arrays; strays = sym (lead_alike v).strays }

  pub share : TrimShare g (trimmed g)
  share =
      let f = var_passage g in
      let h = var_passage (trimmed g) in
      record {
        header = refl;
        vars = refl;
        first = λ scalars arrays. refl;
        passages = lead_alike;
        variables = same_variables;
        steps = same_steps;
        visits = λ first vs. (visits_over f h lead_alike first vs, visits_over h f back first vs);
        ends = λ first rest r arrays. (ends_over f h lead_alike first rest r arrays, ends_over h f back first rest r arrays);
        runs = λ first r arrays more most. (
          runs_over f h lead_alike (steps_made g) (steps_made (trimmed g)) same_steps first r arrays more most,
          runs_over h f back (steps_made (trimmed g)) (steps_made g) (λ v. sym (same_steps v)) first r arrays more most,
        );
      }
