-- What the code makes of an if and of a loop, step by step, is what their definitions say.
use Rattle.std.proofs.Common.{◌≡◌, ℕ, ◌+◌, ◌<◌, List, length, get_or, drop, ap, sym, ◌∙◌}
use Rattle.std.proofs.lemmas.List.{at_drop_more}
use Rattle.std.proofs.lemmas.List.Sums.{sum_by-drop_more}
use Rattle.std.specs.Prelude.{Option}
use Rattle.c_ast.specs.declared.typed.ArrayOf.{ArrayOf}
use Rattle.c_ast.specs.declared.typed.TypedExpr.{TypedExpr}
use Rattle.c_ast.specs.declared.normal.NormalStmt.{NormalStmt}
use Rattle.ir.specs.declared.cfg.CfgJump.TheVariants.{Go}
use Rattle.c_meaning.specs.Sizes.{closes, steps}
use Rattle.c_meaning.specs.PartLaws.{blocks_of, blocks_if_any, blocks_of_step, steps_of}
use Rattle.struct_cfg.specs.declared.draft.Draft.{Draft}
use Rattle.struct_cfg.specs.Drafts.{here, close}
use Rattle.struct_cfg.specs.Lowering.{lower}
use Rattle.struct_cfg.specs.Lists.{lower_all, lower_any, branched, entered, stepped, again_in, lower_if, lower_while, lower_do, lower_for}

module _ (arrays : List ArrayOf) (x y : ℕ) where
  pub if_made : (before : List NormalStmt) (cond : TypedExpr) (s : NormalStmt) (o : Option NormalStmt) (d d1 d2 d3 d4 d5 d6 : Draft) (h n b : ℕ)
      → d1 ≡ lower_all arrays x y before d → h ≡ here d1 → n ≡ closes s.kind → b ≡ blocks_if_any o
      → d2 ≡ branched arrays cond (h + 1) (h + 1 + n + 1) d1 → d3 ≡ lower arrays x y s.kind d2 → d4 ≡ close (Go (h + 1 + n + 1 + b + 1)) d3
      → d5 ≡ lower_any arrays x y o d4 → d6 ≡ close (Go (h + 1 + n + 1 + b + 1)) d5
      → d6 ≡ lower_if arrays x y before cond s o d
  if_made before cond s o d d1 d2 d3 d4 d5 d6 h n b e1 eh en eb e2 e3 e4 e5 e6 =
      let l1 = lower_all arrays x y before d in
      let l2 = branched arrays cond (here l1 + 1) (here l1 + 1 + closes s.kind + 1) l1 in
      let at : h ≡ here l1 = eh ∙ ap here e1 in
      let p2 : d2 ≡ l2 = e2 ∙ (λ i. branched arrays cond (at i + 1) (at i + 1 + en i + 1) (e1 i)) in
      let p3 : d3 ≡ lower arrays x y s.kind l2 = e3 ∙ ap (lower arrays x y s.kind) p2 in
      let p4 : d4 ≡ close (Go (here l1 + 1 + closes s.kind + 1 + blocks_if_any o + 1)) (lower arrays x y s.kind l2) = e4 ∙ (λ i. close (Go (at i + 1 + en i + 1 + eb i + 1)) (p3 i)) in
      let p5 = e5 ∙ ap (lower_any arrays x y o) p4 in
      e6 ∙ (λ i. close (Go (at i + 1 + en i + 1 + eb i + 1)) (p5 i))

  pub while_made : (before : List NormalStmt) (cond : TypedExpr) (s : NormalStmt) (d d0 d1 d2 d3 d4 : Draft) (h n m g : ℕ)
      → h ≡ here d → n ≡ blocks_of before → m ≡ closes s.kind → d0 ≡ close (Go (h + 1)) d → d1 ≡ lower_all arrays x y before d0 → g ≡ here d1
      → d2 ≡ branched arrays cond (g + 1) (h + 1 + n + 1 + m + 1) d1 → d3 ≡ lower arrays (h + 1 + n + 1 + m + 1) (h + 1) s.kind d2 → d4 ≡ close (Go (h + 1)) d3
      → d4 ≡ lower_while arrays x y before cond s d
  while_made before cond s d d0 d1 d2 d3 d4 h n m g eh en em e0 e1 eg e2 e3 e4 =
      let exit : h + 1 + n + 1 + m + 1 ≡ here d + 1 + blocks_of before + 1 + closes s.kind + 1 = λ i. eh i + 1 + en i + 1 + em i + 1 in
      let l1 = lower_all arrays x y before (close (Go (here d + 1)) d) in
      let p1 : d1 ≡ l1 = e1 ∙ ap (lower_all arrays x y before) (e0 ∙ ap (λ k. close (Go (k + 1)) d) eh) in
      let at : g ≡ here l1 = eg ∙ ap here p1 in
      let p2 : d2 ≡ branched arrays cond (here l1 + 1) (here d + 1 + blocks_of before + 1 + closes s.kind + 1) l1 = e2 ∙ (λ i. branched arrays cond (at i + 1) (exit i) (p1 i)) in
      let p3 : d3 ≡ lower arrays (here d + 1 + blocks_of before + 1 + closes s.kind + 1) (here d + 1) s.kind (branched arrays cond (here l1 + 1) (here d + 1 + blocks_of before + 1 + closes s.kind + 1) l1) =
      e3 ∙ (λ i. lower arrays (exit i) (eh i + 1) s.kind (p2 i)) in
      e4 ∙ (λ i. close (Go (eh i + 1)) (p3 i))

  pub do_made : (s : NormalStmt) (before : List NormalStmt) (cond : TypedExpr) (d d0 d1 d2 d3 d4 : Draft) (h n m : ℕ)
      → h ≡ here d → n ≡ closes s.kind → m ≡ blocks_of before → d0 ≡ close (Go (h + 1)) d → d1 ≡ lower arrays (h + 1 + n + 1 + m + 1) (h + 1 + n + 1) s.kind d0
      → d2 ≡ close (Go (h + 1 + n + 1)) d1 → d3 ≡ lower_all arrays x y before d2 → d4 ≡ branched arrays cond (h + 1) (h + 1 + n + 1 + m + 1) d3
      → d4 ≡ lower_do arrays x y s before cond d
  do_made s before cond d d0 d1 d2 d3 d4 h n m eh en em e0 e1 e2 e3 e4 =
      let head = here d + 1 + closes s.kind + 1 in
      let l1 = lower arrays (head + blocks_of before + 1) head s.kind (close (Go (here d + 1)) d) in
      let p0 : d0 ≡ close (Go (here d + 1)) d = e0 ∙ ap (λ k. close (Go (k + 1)) d) eh in
      let p1 : d1 ≡ l1 = e1 ∙ (λ i. lower arrays (eh i + 1 + en i + 1 + em i + 1) (eh i + 1 + en i + 1) s.kind (p0 i)) in
      let p2 : d2 ≡ close (Go head) l1 = e2 ∙ (λ i. close (Go (eh i + 1 + en i + 1)) (p1 i)) in
      let p3 : d3 ≡ lower_all arrays x y before (close (Go head) l1) = e3 ∙ ap (lower_all arrays x y before) p2 in
      e4 ∙ (λ i. branched arrays cond (eh i + 1) (eh i + 1 + en i + 1 + em i + 1) (p3 i))

  pub for_made : (before : List NormalStmt) (cond : Option TypedExpr) (o : Option NormalStmt) (s : NormalStmt) (d d0 d1 d2 d3 d4 d5 : Draft) (h n m k again : ℕ)
      → h ≡ here d → n ≡ blocks_of before → m ≡ closes s.kind → k ≡ blocks_of_step o → d0 ≡ close (Go (h + 1)) d → d1 ≡ lower_all arrays x y before d0
      → d2 ≡ entered arrays cond (h + 1 + n + 1 + m + 1 + k) d1 → again ≡ again_in o (h + 1) (h + 1 + n + 1 + m + 1) → d3 ≡ lower arrays (h + 1 + n + 1 + m + 1 + k) again s.kind d2
      → d4 ≡ stepped arrays x y o (h + 1 + n + 1 + m + 1) d3 → d5 ≡ close (Go (h + 1)) d4
      → d5 ≡ lower_for arrays x y before cond o s d
  for_made before cond o s d d0 d1 d2 d3 d4 d5 h n m k again eh en em ek e0 e1 e2 ea e3 e4 e5 =
      let after = here d + 1 + blocks_of before + 1 + closes s.kind + 1 in
      let exit = after + blocks_of_step o in
      let then : h + 1 + n + 1 + m + 1 ≡ after = λ i. eh i + 1 + en i + 1 + em i + 1 in
      let l2 = entered arrays cond exit (lower_all arrays x y before (close (Go (here d + 1)) d)) in
      let l3 = lower arrays exit (again_in o (here d + 1) after) s.kind l2 in
      let p1 : d1 ≡ lower_all arrays x y before (close (Go (here d + 1)) d) = e1 ∙ ap (lower_all arrays x y before) (e0 ∙ ap (λ j. close (Go (j + 1)) d) eh) in
      let p2 : d2 ≡ l2 = e2 ∙ (λ i. entered arrays cond (then i + ek i) (p1 i)) in
      let to : again ≡ again_in o (here d + 1) after = ea ∙ (λ i. again_in o (eh i + 1) (then i)) in
      let p3 : d3 ≡ l3 = e3 ∙ (λ i. lower arrays (then i + ek i) (to i) s.kind (p2 i)) in
      let p4 : d4 ≡ stepped arrays x y o after l3 = e4 ∙ (λ i. stepped arrays x y o (then i) (p3 i)) in
      e5 ∙ (λ i. close (Go (eh i + 1)) (p4 i))

  -- the statements from the i-th on are those behind it, once that one is laid
  pub laid_next : (ss : List NormalStmt) (i : ℕ) (s : NormalStmt) (d e : Draft) → i < length ss → s ≡ get_or ss i s → e ≡ lower arrays x y s.kind d
      → lower_all arrays x y (drop (i + 1) ss) e ≡ lower_all arrays x y (drop i ss) d
  laid_next ss i s d e lt is laid =
      ap (lower_all arrays x y (drop (i + 1) ss)) (laid ∙ ap (λ (z : NormalStmt). lower arrays x y z.kind d) is)
      ∙ sym (at_drop_more (λ (zs : List NormalStmt). lower_all arrays x y zs d) ss i s lt)

pub blocks_next : (ss : List NormalStmt) (i : ℕ) (s : NormalStmt) → i < length ss → s ≡ get_or ss i s → blocks_of (drop i ss) ≡ closes s.kind + blocks_of (drop (i + 1) ss)
blocks_next ss i s lt is = sum_by-drop_more (λ (z : NormalStmt). closes z.kind) ss i s lt ∙ ap (λ (z : NormalStmt). closes z.kind + blocks_of (drop (i + 1) ss)) (sym is)

pub steps_next : (ss : List NormalStmt) (i : ℕ) (s : NormalStmt) → i < length ss → s ≡ get_or ss i s → steps_of (drop i ss) ≡ steps s.kind + steps_of (drop (i + 1) ss)
steps_next ss i s lt is = sum_by-drop_more (λ (z : NormalStmt). steps z.kind) ss i s lt ∙ ap (λ (z : NormalStmt). steps z.kind + steps_of (drop (i + 1) ss)) (sym is)
