-- What parts of statements make of a draft, as the code puts them together, and how far a draft grows by them.
use Rattle.std.proofs.Common.{◌≡◌, ℕ, ◌≤◌, List, [], length, ap, ◌∙◌, arith}
use Rattle.std.proofs.Math.Seq.{set_out}
use Rattle.c_ast.specs.declared.typed.ArrayOf.{ArrayOf}
use Rattle.c_ast.specs.declared.normal.Normal.{Normal}
use Rattle.c_ast.specs.declared.normal.NormalStmt.{NormalStmt}
use Rattle.c_ast.specs.declared.normal.NormalStmtKind.{NormalStmtKind}
use Rattle.ir.specs.declared.cfg.CfgJump.{CfgJump}
use Rattle.c_meaning.specs.Sizes.{closes, steps}
use Rattle.struct_cfg.specs.declared.draft.Draft.{Draft}
use Rattle.struct_cfg.specs.Code.{draft_size, HasSpace, HasGrown}
use Rattle.struct_cfg.specs.Drafts.{with_value, close}
use Rattle.struct_cfg.specs.Kernels.{empty, IsSmallForm}
use Rattle.c_meaning.specs.PartLaws.{blocks_of, steps_of}
use Rattle.struct_cfg.specs.Lowering.{lower}
use Rattle.struct_cfg.proofs.Blocks.{length_count_from}
use Rattle.struct_cfg.proofs.Lays.{grown_close, grown_kind}
use Rattle.struct_cfg.proofs.Sized.{steps_cost, more_close, more_kind}

pub value_beyond : (var value : ℕ) (d : Draft) → length d.env ≤ var → with_value var value d ≡ d
value_beyond var value d h = ap (λ e. record { blocks = d.blocks; steps = d.steps; env = e }) (set_out d.env var value h)

pub close_grows : (j : CfgJump) (d e : Draft) → e ≡ close j d → HasGrown d e 1 0
close_grows j d e is =
    let a = grown_close j d in
    let b = more_close length steps_cost [] j d in
    rw is (omega (arith, a.blocks, a.env, b.by))

pub kind_grows : (arrays : List ArrayOf) (x y : ℕ) (k : NormalStmtKind) (d e : Draft) → e ≡ lower arrays x y k d → HasGrown d e (closes k) (steps k)
unfolding steps_cost
kind_grows arrays x y k d e is =
    let a = grown_kind arrays x y k d in
    let b = more_kind length steps_cost arrays x y k d in
    rw is (omega (arith, a.blocks, a.env, b.by))

-- ---- the whole body

empty_size : (n : ℕ) → draft_size (empty n) ≡ n
empty_size n = omega (arith, length_count_from 0 n)

pub body_space : (f : Normal) (n : ℕ) (d : Draft) (ss : List NormalStmt) → IsSmallForm f → n ≡ length f.vars → d ≡ empty n → ss ≡ f.body → HasSpace d (blocks_of ss) (steps_of ss)
body_space f n d ss small is e b =
    let a = empty_size n in
    rw (e, b) (omega arith)

pub end_space : (f : Normal) (n : ℕ) (d e : Draft) (ss : List NormalStmt) → IsSmallForm f → n ≡ length f.vars → d ≡ empty n → ss ≡ f.body → HasGrown d e (blocks_of ss) (steps_of ss) → HasSpace e 1 1
end_space f n d e ss small is i b few =
    let a : draft_size d ≡ n = ap draft_size i ∙ empty_size n in
    let c : blocks_of ss ≡ blocks_of f.body = ap blocks_of b in
    let g : steps_of ss ≡ steps_of f.body = ap steps_of b in
    omega arith
