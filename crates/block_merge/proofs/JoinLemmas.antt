-- What the code makes of two blocks is their joined block.
use Rattle.std.proofs.Common.{◌≡◌, ℕ, List, ◌++◌, map, ◌∙◌, ap}
use Rattle.ir.specs.declared.instr.Instr.{Instr}
use Rattle.ir.specs.declared.graph.Block.{Block}
use Rattle.ir.specs.declared.graph.Jump.{Jump}
use Rattle.ir.specs.Renaming.{renamed}
use Rattle.block_merge.specs.Renamed.{moved_to, renamed_jump}
use Rattle.block_merge.specs.Joined.{values_of, joined}
use Rattle.block_merge.specs.Parts.{given_on}

pub joined_is : (b c : Block) (with : List ℕ) (m : ℕ) (j : Jump) (is cs : List Instr) → with ≡ given_on b.jump → m ≡ values_of b → j ≡ renamed_jump (moved_to with m) c.jump → cs ≡ c.steps
    → is ≡ b.steps ++ map (renamed (moved_to with m)) cs → record { args = b.args; steps = is; jump = j } ≡ joined b (given_on b.jump) c
joined_is b c with m j is cs e k p q r =
    ap (λ (x : List Instr). record { args = b.args; steps = x; jump = j }) (r ∙ ap (λ (x : List Instr). b.steps ++ map (renamed (moved_to with m)) x) q)
    ∙ ap (λ (x : Jump). record { args = b.args; steps = b.steps ++ map (renamed (moved_to with m)) c.steps; jump = x }) p
    ∙ ap (λ (w : List ℕ). record { args = b.args; steps = b.steps ++ map (renamed (moved_to w m)) c.steps; jump = renamed_jump (moved_to w m) c.jump }) e
    ∙ ap (λ (n : ℕ). record { args = b.args; steps = b.steps ++ map (renamed (moved_to (given_on b.jump) n)) c.steps; jump = renamed_jump (moved_to (given_on b.jump) n) c.jump }) k
