-- What a block adds to the heads and to the edges: its own head, 0 where its one edge stands, and an edge for each side of its jump.
use Rattle.std.proofs.Common.{◌≡◌, ℕ, List, [], ◌∷◌, ◌++◌, length, refl, ap, ◌∙◌, append_assoc}
use Rattle.el_base.specs.declared.ty.Array.{Array}
use Rattle.ir.specs.declared.graph.Block.{Block}
use Rattle.ir.specs.declared.graph.Jump.{Jump}
use Rattle.ir.specs.declared.graph.Jump.TheVariants.{Go, Two, Return}
use Rattle.ir.specs.declared.groups.Access.{Access}
use Rattle.circuit_build.specs.declared.draft.Draft.{Draft}
use Rattle.circuit_build.specs.declared.draft.Edge.{Edge}
use Rattle.circuit_build.specs.Blocks.{allocations, early_triggers, late_triggers, block_opened, block_grouped, block_worked, block_laid}
use Rattle.circuit_build.specs.Jumps.{with_edge, all_gone, control_branched, result_list, jump_laid}
use Rattle.circuit_build.specs.Steps.{steps_laid}
use Rattle.circuit_build.specs.Uses.{uses, handed_often}
use Rattle.circuit_build.proofs.Fields.{Kept, kept_then, allocations_kept, steps_kept, forked_still, bare_still, head_unit, head_headed, all_gone_still, parted_still, jump_heads, jump_queues}
use Rattle.circuit_build.proofs.LayBlocks.{gone_edge, parted_all, yes_edge, no_edge}

-- ---- jumps

abbrev pub side_edges : ℕ → Jump → Draft → List Edge
side_edges join (Go to) d = gone_edge to.block to.with d ∷ []
side_edges join (Two c a b) d = yes_edge c a b d ∷ no_edge c a b d ∷ []
side_edges join (Return v) d = gone_edge join (result_list v) d ∷ []

-- the draft with an edge more, and with more of them
abbrev pub led : Edge → Draft → Draft
led e d = with_edge e.to e.control e.with d

-- the draft before the edges of a jump are there
abbrev pub before_edges : ℕ → Jump → Draft → Draft
before_edges join (Go to) d = all_gone to.block to.with d
before_edges join (Two c a b) d = control_branched c (parted_all c a b d)
before_edges join (Return v) d = all_gone join (result_list v) d

abbrev pub all_led : List Edge → Draft → Draft
all_led [] d = d
all_led (e ∷ es) d = all_led es (led e d)

pub jump_led : (join : ℕ) (j : Jump) (d : Draft) → jump_laid join j d ≡ all_led (side_edges join j d) (before_edges join j d)
jump_led join (Go to) d = refl
jump_led join (Two c a b) d = refl
jump_led join (Return v) d = refl

pub before_kept : (join : ℕ) (j : Jump) (d : Draft) → Kept d (before_edges join j d)
before_kept join (Go to) d = (all_gone_still to.block to.with d).kept
before_kept join (Two c a b) d = (parted_still c (handed_often (length d.ends) a) (handed_often (length d.ends) b) d).kept
before_kept join (Return v) d = (all_gone_still join (result_list v) d).kept

pub jump_edges : (join : ℕ) (j : Jump) (d : Draft) → (jump_laid join j d).edges ≡ d.edges ++ side_edges join j d
jump_edges join (Go to) d = ap (λ es. es ++ gone_edge to.block to.with d ∷ []) (before_kept join (Go to) d).edges
jump_edges join (Two c a b) d =
    ap (λ es. (es ++ yes_edge c a b d ∷ []) ++ no_edge c a b d ∷ []) (before_kept join (Two c a b) d).edges ∙ append_assoc d.edges (yes_edge c a b d ∷ []) (no_edge c a b d ∷ [])
jump_edges join (Return v) d = ap (λ es. es ++ gone_edge join (result_list v) d ∷ []) (before_kept join (Return v) d).edges

-- ---- blocks

module _ (arrays : List Array) (join ins b : ℕ) (k : Block) (xs : List Access) (d : Draft) where
  -- from the head to the jump
  pub worked_kept : Kept (block_opened ins b k xs d) (block_worked arrays ins b k xs d)
  worked_kept =
      let e = block_opened ins b k xs d in
      let f = allocations b xs e in
      let g = block_grouped ins b k xs d in
      let s = steps_laid arrays k.steps g in
      kept_then e g (block_worked arrays ins b k xs d)
      (kept_then e f g (allocations_kept b xs e) (forked_still (late_triggers b k xs) f).kept)
      (kept_then g s (block_worked arrays ins b k xs d) (steps_kept arrays k.steps g) (bare_still (length d.chans) k.jump s).kept)

  pub worked_heads : (block_worked arrays ins b k xs d).heads ≡ d.heads ++ head_unit ins b d ∷ []
  worked_heads = worked_kept.heads ∙ (head_headed ins b k.args (uses k) (early_triggers b k xs) d).heads

  pub worked_edges : (block_worked arrays ins b k xs d).edges ≡ d.edges
  worked_edges = worked_kept.edges ∙ (head_headed ins b k.args (uses k) (early_triggers b k xs) d).edges

  pub worked_tails : (block_worked arrays ins b k xs d).tails ≡ d.tails
  worked_tails = worked_kept.tails ∙ (head_headed ins b k.args (uses k) (early_triggers b k xs) d).tails

  pub block_heads : (block_laid arrays join ins b k xs d).heads ≡ d.heads ++ head_unit ins b d ∷ []
  block_heads = jump_heads join k.jump (block_worked arrays ins b k xs d) ∙ worked_heads

  pub block_edges : (block_laid arrays join ins b k xs d).edges ≡ d.edges ++ side_edges join k.jump (block_worked arrays ins b k xs d)
  block_edges = jump_edges join k.jump (block_worked arrays ins b k xs d) ∙ ap (λ es. es ++ side_edges join k.jump (block_worked arrays ins b k xs d)) worked_edges

  pub block_queues : (block_laid arrays join ins b k xs d).queues ≡ (block_worked arrays ins b k xs d).queues
  block_queues = jump_queues join k.jump (block_worked arrays ins b k xs d)
