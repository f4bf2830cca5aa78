-- A block to which no other block leads is never visited, whatever stands there.
use Rattle.std.proofs.Common.{◌≡◌, ◌≢◌, ℕ, zero, suc, ◌+◌, List, [], ◌∷◌, Option, Some, sym, ◌∙◌, ap, subst, arith}
use Rattle.std.specs.Prelude.{set}
use Rattle.std.proofs.lemmas.List.{get_or-set_other}
use Rattle.ir.specs.declared.graph.Block.{Block}
use Rattle.ir.specs.declared.graph.Jump.{Jump}
use Rattle.ir.specs.declared.graph.Jump.TheVariants.{Go, Two, Return}
use Rattle.ir.specs.Steps.{value_at}
use Rattle.ir.specs.Visits.{Visit, Passage, next_of, next_visit, Finishes, over_visits, strays_of}
use Rattle.ir.specs.Graphs.{Graph, handed, side, onward_of, no_block, block_at, passage, first_visit, block_weight, weight}
use Rattle.block_merge.specs.Merged.{with_blocks}
use Rattle.block_merge.specs.Shares.{RunsOver}
use Rattle.block_merge.proofs.Backs.{EndsClean, EndsBack}
use Rattle.block_merge.proofs.ListedRuns.{LeadsTo}
use Rattle.block_merge.proofs.Visiting.{by_block}

module _ (g : Graph) (c : ℕ) (x : Block) (no_entry : 0 ≢ c) (away : (n : ℕ) → n ≢ c → LeadsTo (λ m. m ≢ c) (block_at g n).jump) where
  abbrev h : Graph
  h = with_blocks g (set g.blocks c x)

  next_away : (j : Jump) (vs : List ℕ) (xs : List (List ℕ)) (w : Visit) → LeadsTo (λ m. m ≢ c) j → next_of (onward_of j vs) xs ≡ Some w → w.block ≢ c
  next_away (Go t) vs xs w l e = let z : t.block ≡ w.block = cc in subst (λ m. m ≢ c) z l
  next_away (Two v a b) vs xs w l e = by (value_at vs v) e
    where
      by : (n : ℕ) → next_of (side n (handed vs a) (handed vs b)) xs ≡ Some w → w.block ≢ c
      by zero e = let z : b.block ≡ w.block = cc in subst (λ m. m ≢ c) z l.1
      by (suc n) e = let z : a.block ≡ w.block = cc in subst (λ m. m ≢ c) z l.0
  next_away (Return v) vs xs w l e = absurd (cc)

  same_block : (n : ℕ) → n ≢ c → block_at h n ≡ block_at g n
  same_block n ne = get_or-set_other g.blocks c n x no_block ne

  record Same (v : Visit) (rest : List Visit) (r : Option ℕ) (arrays : List (List ℕ)) : Type 0 where
    ends : Finishes (passage h) v rest r arrays
    strays : strays_of (passage h) (v ∷ rest) ≡ strays_of (passage g) (v ∷ rest)
    heavy : over_visits (weight h) (v ∷ rest) ≡ over_visits (weight g) (v ∷ rest)

  same : (rest : List Visit) (v : Visit) (r : Option ℕ) (arrays : List (List ℕ)) → v.block ≢ c → Finishes (passage g) v rest r arrays → Same v rest r arrays
  same [] v r arrays ne f =
      let p : passage h v ≡ passage g v = ap (λ (y : Block). by_block y v.given v.arrays) (same_block v.block ne) in
      let w : weight h v ≡ weight g v = ap block_weight (same_block v.block ne) in
      record {
        ends = record { result = ap (λ (q : Passage). q.onward) p ∙ f.result; last_arrays = ap (λ (q : Passage). q.arrays) p ∙ f.last_arrays };
        strays = ap (λ (q : Passage). q.strays + 0) p;
        heavy = ap (λ n. n + 0) w;
      }
  same (u ∷ rest) v r arrays ne f =
      let p : passage h v ≡ passage g v = ap (λ (y : Block). by_block y v.given v.arrays) (same_block v.block ne) in
      let w : weight h v ≡ weight g v = ap block_weight (same_block v.block ne) in
      let i = same rest u r arrays (next_away (block_at g v.block).jump (passage g v).values (passage g v).arrays u (away v.block ne) f.0) f.1 in
      record {
        ends = (ap (λ (q : Passage). next_of q.onward q.arrays) p ∙ f.0, i.ends);
        strays = (let s = ap (λ (q : Passage). q.strays) p in let t = i.strays in omega (arith, s, t));
        heavy = (let t = i.heavy in omega (arith, w, t));
      }

  pub idle_runs : RunsOver g h
  idle_runs scalars arrays r last more most l f =
      let s = same f.rest (first_visit scalars arrays) r last no_entry f.ends in
      record {
        rest = f.rest;
        ends = s.ends;
        clean = s.strays ∙ f.clean;
        few = f.few;
        cheap = (let p = f.cheap in let q = s.heavy in omega (arith, p, q));
      }

  -- ---- and back

  back : (rest : List Visit) (v : Visit) (r : Option ℕ) (arrays : List (List ℕ)) → v.block ≢ c → Finishes (passage h) v rest r arrays → strays_of (passage h) (v ∷ rest) ≡ 0 → EndsClean g v r arrays
  back [] v r arrays ne f z =
      let p : passage h v ≡ passage g v = ap (λ (y : Block). by_block y v.given v.arrays) (same_block v.block ne) in
      record {
        rest = [];
        ends = record { result = sym (ap (λ (q : Passage). q.onward) p) ∙ f.result; last_arrays = sym (ap (λ (q : Passage). q.arrays) p) ∙ f.last_arrays };
        clean = (let s = ap (λ (q : Passage). q.strays) p in omega (arith, s, z));
      }
  back (u ∷ rest) v r arrays ne f z =
      let p : passage h v ≡ passage g v = ap (λ (y : Block). by_block y v.given v.arrays) (same_block v.block ne) in
      let n : next_visit (passage g) v ≡ Some u = sym (ap (λ (q : Passage). next_of q.onward q.arrays) p) ∙ f.0 in
      let later : strays_of (passage h) (u ∷ rest) ≡ 0 = omega (arith, z) in
      let i = back rest u r arrays (next_away (block_at g v.block).jump (passage g v).values (passage g v).arrays u (away v.block ne) n) f.1 later in
      record { rest = u ∷ i.rest; ends = (n, i.ends); clean = (let s = ap (λ (q : Passage). q.strays) p in let t = i.clean in omega (arith, s, t, z)) }

  pub idle_back : EndsBack g h
  idle_back scalars arrays r last l x = back x.rest (first_visit scalars arrays) r last no_entry x.ends x.clean
