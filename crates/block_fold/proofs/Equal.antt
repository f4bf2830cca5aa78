-- Steps that `==` takes for the same are equal.
use Rattle.std.proofs.Common.{◌≡◌, true, rules}
use Rattle.std.specs.Prelude.{◌&&◌, ◌==◌}
use Rattle.std.proofs.lemmas.Bool.{and_parts, eqb-true}
use denote.Enum.Bare.{same_true}
use Rattle.el_base.specs.declared.operation.Op1.{Op1}
use Rattle.el_base.specs.declared.operation.Op2.{Op2}
use Rattle.el_base.specs.contracts.operation.Op1 as op1
use Rattle.el_base.specs.contracts.operation.Op2 as op2
use Rattle.el_base.specs.contracts.operation.Op1PartialEq.TheImpl as equality1
use Rattle.el_base.specs.contracts.operation.Op2PartialEq.TheImpl as equality2
use Rattle.ir.specs.declared.instr.Instr.{Instr}
use Rattle.ir.specs.declared.instr.Instr.TheVariants.{Const, One, Two, Select, Load, Store}
use Rattle.block_fold.specs.Puts.{same_step}

op1_same : (a b : Op1) → equality1.ghosts.eq a b ≡ true → a ≡ b
op1_same a b h = same_true op1.the_type (search rules) a b h

pub op2_same : (a b : Op2) → equality2.ghosts.eq a b ≡ true → a ≡ b
op2_same a b h = same_true op2.the_type (search rules) a b h

pub step_same : (i j : Instr) → same_step i j ≡ true → i ≡ j
step_same (Const w n) (Const w2 n2) h =
    let p0 = and_parts (w == w2) (n == n2) h in
    let e0 = eqb-true w w2 p0.0 in
    let e1 = eqb-true n n2 p0.1 in
    cc
step_same (Const w n) (One op2 a2) h = absurd (cc)
step_same (Const w n) (Two op2 a2 b2) h = absurd (cc)
step_same (Const w n) (Select w2 c2 a2 b2) h = absurd (cc)
step_same (Const w n) (Load a2 p2) h = absurd (cc)
step_same (Const w n) (Store a2 p2 v2) h = absurd (cc)
step_same (One op a) (Const w2 n2) h = absurd (cc)
step_same (One op a) (One op2 a2) h =
    let p0 = and_parts (equality1.ghosts.eq op op2) (a == a2) h in
    let e0 = op1_same op op2 p0.0 in
    let e1 = eqb-true a a2 p0.1 in
    cc
step_same (One op a) (Two op2 a2 b2) h = absurd (cc)
step_same (One op a) (Select w2 c2 a2 b2) h = absurd (cc)
step_same (One op a) (Load a2 p2) h = absurd (cc)
step_same (One op a) (Store a2 p2 v2) h = absurd (cc)
step_same (Two op a b) (Const w2 n2) h = absurd (cc)
step_same (Two op a b) (One op2 a2) h = absurd (cc)
step_same (Two op a b) (Two op2 a2 b2) h =
    let p0 = and_parts (equality2.ghosts.eq op op2) ((a == a2) && (b == b2)) h in
    let p1 = and_parts (a == a2) (b == b2) p0.1 in
    let e0 = op2_same op op2 p0.0 in
    let e1 = eqb-true a a2 p1.0 in
    let e2 = eqb-true b b2 p1.1 in
    cc
step_same (Two op a b) (Select w2 c2 a2 b2) h = absurd (cc)
step_same (Two op a b) (Load a2 p2) h = absurd (cc)
step_same (Two op a b) (Store a2 p2 v2) h = absurd (cc)
step_same (Select w c a b) (Const w2 n2) h = absurd (cc)
step_same (Select w c a b) (One op2 a2) h = absurd (cc)
step_same (Select w c a b) (Two op2 a2 b2) h = absurd (cc)
step_same (Select w c a b) (Select w2 c2 a2 b2) h =
    let p0 = and_parts (w == w2) ((c == c2) && ((a == a2) && (b == b2))) h in
    let p1 = and_parts (c == c2) ((a == a2) && (b == b2)) p0.1 in
    let p2 = and_parts (a == a2) (b == b2) p1.1 in
    let e0 = eqb-true w w2 p0.0 in
    let e1 = eqb-true c c2 p1.0 in
    let e2 = eqb-true a a2 p2.0 in
    let e3 = eqb-true b b2 p2.1 in
    cc
step_same (Select w c a b) (Load a2 p2) h = absurd (cc)
step_same (Select w c a b) (Store a2 p2 v2) h = absurd (cc)
step_same (Load a p) (Const w2 n2) h = absurd (cc)
step_same (Load a p) (One op2 a2) h = absurd (cc)
step_same (Load a p) (Two op2 a2 b2) h = absurd (cc)
step_same (Load a p) (Select w2 c2 a2 b2) h = absurd (cc)
step_same (Load a p) (Load a2 p2) h =
    let p0 = and_parts (a == a2) (p == p2) h in
    let e0 = eqb-true a a2 p0.0 in
    let e1 = eqb-true p p2 p0.1 in
    cc
step_same (Load a p) (Store a2 p2 v2) h = absurd (cc)
step_same (Store a p v) (Const w2 n2) h = absurd (cc)
step_same (Store a p v) (One op2 a2) h = absurd (cc)
step_same (Store a p v) (Two op2 a2 b2) h = absurd (cc)
step_same (Store a p v) (Select w2 c2 a2 b2) h = absurd (cc)
step_same (Store a p v) (Load a2 p2) h = absurd (cc)
step_same (Store a p v) (Store a2 p2 v2) h =
    let p0 = and_parts (a == a2) ((p == p2) && (v == v2)) h in
    let p1 = and_parts (p == p2) (v == v2) p0.1 in
    let e0 = eqb-true a a2 p0.0 in
    let e1 = eqb-true p p2 p1.0 in
    let e2 = eqb-true v v2 p1.1 in
    cc
