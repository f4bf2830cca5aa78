-- The graph that is made of a kernel stores to exactly the arrays that the kernel assigns to.
use Rattle.std.proofs.Common.{◌≡◌, ℕ, zero, suc, List, [], ◌∷◌, ◌++◌, map, length, drop, Some, refl, sym, ◌∙◌, ap, subst, arith}
use Rattle.std.specs.Prelude.{slice_get}
use Rattle.std.specs.List.{Contains, flat_map}
use Rattle.std.proofs.lemmas.Grind.{flat_map-append}
use Rattle.ir.specs.declared.instr.Instr.{Instr}
use Rattle.ir.specs.declared.instr.Instr.TheVariants.{Select, Store}
use Rattle.ir.specs.declared.cfg.CfgBlock.{CfgBlock}
use Rattle.ir.specs.declared.graph.Block.{Block}
use Rattle.ir.specs.Accesses.{IsStoredTo}
use Rattle.ir.specs.Graphs.{Graph}
use Rattle.c_meaning.specs.declared.profile.Profile.TheVariants.{Plain}
use Rattle.c_meaning.specs.Statements.{objects}
use Rattle.c_norm.specs.Kernels.{normal_form}
use Rattle.struct_cfg.specs.Kernels.{form_graph}
use Rattle.block_trim.specs.Trimming.{trimmed_number, trimmed_block, trimmed}
use Rattle.block_args.specs.Arguments.{new_number, new_steps, zeros, new_block, new_blocks, argued}
use Rattle.block_args.specs.Tables.{held_at}
use Rattle.kernel_graph.specs.Laws.{StoresAreAssignments}
use Rattle.kernel_graph.specs.Targets.{targets_of}
use Rattle.kernel_graph.proofs.Elements.{Stands, stands_of, contains_of}
use Rattle.kernel_graph.proofs.Laid.{stored, all_stored, renamed_all_stored}
use Rattle.kernel_graph.proofs.Forms.{forms_assign}
use Rattle.kernel_graph.proofs.Blocks.{blocks_stored, graph_stores}

-- trimmed blocks have the same steps, renamed
trimmed_stored : (bs : List CfgBlock) → blocks_stored (map trimmed_block bs) ≡ blocks_stored bs
trimmed_stored [] = refl
trimmed_stored (b ∷ bs) =
    ap (λ xs. xs ++ blocks_stored (map trimmed_block bs)) (renamed_all_stored (trimmed_number b) b.steps) ∙ ap (λ xs. all_stored b.steps ++ xs) (trimmed_stored bs)

-- so have blocks over arguments, behind constants
zeros_stored : (ws : List ℕ) → all_stored (zeros ws) ≡ []
zeros_stored [] = refl
zeros_stored (w ∷ ws) = zeros_stored ws

block_stored : (s : ℕ) (vars : List ℕ) (table : List (List ℕ)) (n : ℕ) (b : CfgBlock) → all_stored (new_block s vars table n b).steps ≡ all_stored b.steps
block_stored s vars table zero b =
    let held = held_at (length vars) table 0 in
    let first = zeros (drop s vars) in
    flat_map-append stored first (new_steps held b) ∙ ap (λ xs. xs ++ all_stored (new_steps held b)) (zeros_stored (drop s vars)) ∙ renamed_all_stored (new_number held b.reads) b.steps
block_stored s vars table (suc n) b = renamed_all_stored (new_number (held_at (length vars) table (suc n)) b.reads) b.steps

abbrev of_blocks : List Block → List ℕ
of_blocks bs = flat_map (λ (b : Block). all_stored b.steps) bs

new_stored : (s : ℕ) (vars : List ℕ) (table : List (List ℕ)) (n : ℕ) (bs : List CfgBlock) → of_blocks (new_blocks s vars table n bs) ≡ blocks_stored bs
new_stored s vars table n [] = refl
new_stored s vars table n (b ∷ bs) =
    ap (λ xs. xs ++ of_blocks (new_blocks s vars table (suc n) bs)) (block_stored s vars table n b) ∙ ap (λ xs. all_stored b.steps ++ xs) (new_stored s vars table (suc n) bs)

-- ---- one store

-- a step stores to an array exactly if it is a store to it
record IsStore (a : ℕ) (i : Instr) : Type 0 where
  addr : ℕ
  value : ℕ
  is : i ≡ Store a addr value

store_of : (a : ℕ) (i : Instr) → Contains (stored i) a → IsStore a i
store_of a (Select w c x y) d = absurd (let l = d.1 in omega arith)
store_of a (Store b p v) (zero, l, e) = record { addr = p; value = v; is = ap (λ x. Store x p v) e }
store_of a (Store b p v) (suc i, l, e) = absurd (omega arith)
store_of a i c = absurd (let l = c.1 in omega arith)

step_of : (g : Graph) (a n : ℕ) (b : Block) → slice_get g.blocks n ≡ Some b → Stands (λ i. Contains (stored i) a) b.steps → IsStoredTo g a
step_of g a n b e s =
    let t = store_of a s.item s.has in
    record { number = n; block = b; is_block = e; place = s.place; addr = t.addr; value = t.value; is_step = s.is ∙ ap Some t.is }

contained : (g : Graph) (a : ℕ) → IsStoredTo g a → Contains (of_blocks g.blocks) a
contained g a s = contains_of (λ (b : Block). all_stored b.steps) a g.blocks s.number s.block s.is_block (contains_of stored a s.block.steps s.place (Store a s.addr s.value) s.is_step (0, omega arith, refl))

stored_to : (g : Graph) (a : ℕ) → Contains (of_blocks g.blocks) a → IsStoredTo g a
stored_to g a c =
    let s = stands_of (λ (b : Block). all_stored b.steps) a g.blocks c in
    step_of g a s.place s.item s.is (stands_of stored a s.item.steps s.has)

pub stores_assignments : StoresAreAssignments
stores_assignments k g made a =
    let f = normal_form k in
    let c = trimmed (form_graph f) in
    let h = argued c made.table in
    let same : of_blocks h.blocks ≡ targets_of k =
    new_stored (length c.scalars) c.vars made.table 0 c.blocks ∙ trimmed_stored (form_graph f).blocks ∙ graph_stores f ∙ forms_assign (objects Plain k) (length k.vars) k.body in
    (λ s. subst (λ xs. Contains xs a) same (contained h a (subst (λ g. IsStoredTo g a) made.is s)), λ t. subst (λ g. IsStoredTo g a) (sym made.is) (stored_to h a (subst (λ xs. Contains xs a) (sym same) t)))
