-- Each derivation of an assignment or a step is traced.
use Rattle.std.proofs.Common.{◌≡◌, ℕ, List, [], ◌∷◌, ◌++◌, Bool, Option, Some, None, refl, ap}
use Rattle.std.specs.Option.{unwrap_or}
use Rattle.el_base.specs.declared.span.Span.{Span}
use Rattle.c_ast.specs.declared.token.Token.{Token}
use Rattle.c_ast.specs.declared.mark.Mark.{Mark}
use Rattle.c_ast.specs.declared.tree.Binary.{Binary}
use Rattle.c_ast.specs.declared.tree.Expr.{Expr}
use Rattle.c_ast.specs.declared.tree.Target.{Target}
use Rattle.c_ast.specs.declared.tree.Stmt.{Stmt}
use Rattle.c_ast.specs.declared.tree.StmtKind.TheVariants as stmt
use Rattle.c_ast.specs.Derives.{marked, named, place_of, stmt_of, IsAssigning, IsStep, DerivesExpr, DerivesIndices, DerivesTarget, DerivesSimple}
use Rattle.c_ast.specs.Nesting.{expr_nesting, indices_nesting, target_nesting, simple_nesting}
use Rattle.c_parse.specs.Tables.{assigning_of}
use Rattle.c_parse.specs.Symbols.{Symbol, Reduction, assign_move}
use Rattle.c_parse.specs.Values.{Value}
use Rattle.c_parse.specs.Traces.{trace}
use Rattle.c_parse.proofs.Closing.{Closed}
use Rattle.c_parse.proofs.Leading.{Leads, leads_join, leads_taking, leads_take, leads_to, leads_reducing, leads_reduced}
use Rattle.c_parse.proofs.Looseness.{NoIndex, PassesIndex, Loose, no_index_at, closed_loose}
use Rattle.c_parse.proofs.TracedExprs.{leads_expr, leads_indices}

-- ---- targets

-- the indices of a target, whose name was read
leads_indices_of : (n : ℕ) (x : List ℕ) (s : Span) (ts rest : List Token) (es : List Expr) (d : DerivesIndices ts es) (symbols : List Symbol) (vs : List Value) → NoIndex rest
    → Leads (indices_nesting n d) ts rest (Symbol.reduce Reduction.no_indices ∷ Symbol.indices n ∷ Symbol.reduce Reduction.target ∷ symbols) (Value.of_token (named x s) ∷ vs) symbols
    (Value.of_target (named x s ∷ ts) (record { name = x; at = place_of (named x s ∷ ts); indices = es }) ∷ vs)
leads_indices_of n x s ts rest es d symbols vs none =
    leads_reduced Reduction.target (leads_reducing Reduction.no_indices (leads_indices ts es d n [] rest [] (Symbol.reduce Reduction.target ∷ symbols) (Value.of_token (named x s) ∷ vs) none))

-- a target before an assignment or a step
leads_target_first : (n : ℕ) (ts rest : List Token) (t : Target) (d : DerivesTarget ts t) (symbols : List Symbol) (vs : List Value) → NoIndex rest
    → Leads (target_nesting n d) ts rest (Symbol.simple n ∷ symbols) vs (Symbol.assigning n ∷ symbols) (Value.of_target ts t ∷ vs)
leads_target_first n ts rest t (DerivesTarget.target x s us es d) symbols vs none =
    leads_taking (Symbol.simple n) (named x s) refl (leads_indices_of n x s us rest es d (Symbol.assigning n ∷ symbols) vs none)

-- a target behind a step
leads_target_last : (n : ℕ) (ts rest : List Token) (t : Target) (d : DerivesTarget ts t) (symbols : List Symbol) (vs : List Value) → NoIndex rest
    → Leads (target_nesting n d) ts rest (Symbol.a_name n ∷ Symbol.reduce Reduction.no_indices ∷ Symbol.indices n ∷ Symbol.reduce Reduction.target ∷ symbols) vs symbols (Value.of_target ts t ∷ vs)
leads_target_last n ts rest t (DerivesTarget.target x s us es d) symbols vs none =
    leads_taking (Symbol.a_name n) (named x s) refl (leads_indices_of n x s us rest es d symbols vs none)

-- ---- assignments

-- what the tables say of the mark of an assignment
record Puts (m : Mark) (op : Option Binary) : Type 0 where
  known : assigning_of m ≡ Some op
  index : PassesIndex m

puts : (m : Mark) (op : Option Binary) → IsAssigning m op → Puts m op
puts m op IsAssigning.plain = record { known = refl; index = λ n. refl }
puts m op i = record { known = refl; index = λ n. refl }

-- the mark and the value of an assignment, behind its target
leads_assigned : (n : ℕ) (m : Mark) (op : Option Binary) (ts us rest : List Token) (s : Span) (t : Target) (e : Expr) (d : DerivesExpr 0 us e) (symbols : List Symbol) (vs : List Value) → Puts m op → Loose 0 rest
    → Leads (n ∷ expr_nesting n d) (marked m s ∷ us) rest (Symbol.assigning n ∷ symbols) (Value.of_target ts t ∷ vs) symbols
    (Value.of_stmt (ts ++ marked m s ∷ us) (stmt_of (stmt.Assign t op e) (ts ++ marked m s ∷ us)) ∷ vs)
leads_assigned n m op ts us rest s t e d symbols vs put loose =
    let value : List Value = Value.of_token (marked m s) ∷ Value.of_target ts t ∷ vs in
    leads_to (leads_reduced Reduction.assigned (leads_taking (Symbol.assigning n) (marked m s) (ap (λ o. assign_move n m o) put.known)
    (leads_expr 0 us e d n rest value loose (Symbol.reduce Reduction.assigned ∷ symbols))))
    (ap (λ o. trace symbols (Value.of_stmt (ts ++ marked m s ∷ us) (stmt_of (stmt.Assign t (unwrap_or o None) e) (ts ++ marked m s ∷ us)) ∷ vs) rest) put.known)

-- ---- steps

step_no_index : (m : Mark) (up : Bool) (s : Span) (ts : List Token) → IsStep m up → NoIndex (marked m s ∷ ts)
step_no_index m up s ts IsStep.up = no_index_at m s ts (λ n. refl)
step_no_index m up s ts IsStep.down = no_index_at m s ts (λ n. refl)

leads_step_after : (n : ℕ) (m : Mark) (up : Bool) (ts rest : List Token) (s : Span) (t : Target) (symbols : List Symbol) (vs : List Value) → IsStep m up
    → Leads (n ∷ []) (marked m s ∷ []) rest (Symbol.assigning n ∷ symbols) (Value.of_target ts t ∷ vs) symbols
    (Value.of_stmt (ts ++ marked m s ∷ []) (stmt_of (stmt.Step t up) (ts ++ marked m s ∷ [])) ∷ vs)
leads_step_after n m up ts rest s t symbols vs IsStep.up = leads_reduced Reduction.step_after (leads_take (Symbol.assigning n) (marked m s) refl)
leads_step_after n m up ts rest s t symbols vs IsStep.down = leads_reduced Reduction.step_after (leads_take (Symbol.assigning n) (marked m s) refl)

leads_step_before : (n : ℕ) (m : Mark) (up : Bool) (ts rest : List Token) (s : Span) (t : Target) (d : DerivesTarget ts t) (symbols : List Symbol) (vs : List Value) → IsStep m up → NoIndex rest
    → Leads (n ∷ target_nesting n d) (marked m s ∷ ts) rest (Symbol.simple n ∷ symbols) vs symbols (Value.of_stmt (marked m s ∷ ts) (stmt_of (stmt.Step t up) (marked m s ∷ ts)) ∷ vs)
leads_step_before n m up ts rest s t d symbols vs IsStep.up none =
    leads_reduced Reduction.step_before (leads_taking (Symbol.simple n) (marked m s) refl (leads_target_last n ts rest t d (Symbol.reduce Reduction.step_before ∷ symbols) (Value.of_token (marked m s) ∷ vs) none))
leads_step_before n m up ts rest s t d symbols vs IsStep.down none =
    leads_reduced Reduction.step_before (leads_taking (Symbol.simple n) (marked m s) refl (leads_target_last n ts rest t d (Symbol.reduce Reduction.step_before ∷ symbols) (Value.of_token (marked m s) ∷ vs) none))

-- ---- both

pub leads_simple : (n : ℕ) (ts rest : List Token) (s : Stmt) (d : DerivesSimple ts s) (symbols : List Symbol) (vs : List Value) → Closed rest
    → Leads (simple_nesting n d) ts rest (Symbol.simple n ∷ symbols) vs symbols (Value.of_stmt ts s ∷ vs)
leads_simple n ts rest s (DerivesSimple.assign us ws m z t op e to operator value) symbols vs closed =
    let put : Puts m op = puts m op operator in
    leads_join (leads_target_first n us (marked m z ∷ (ws ++ rest)) t to symbols vs (no_index_at m z (ws ++ rest) put.index))
    (leads_assigned n m op us ws rest z t e value symbols vs put (closed_loose rest closed))
leads_simple n ts rest s (DerivesSimple.step_after us m z t b to operator) symbols vs closed =
    leads_join (leads_target_first n us (marked m z ∷ rest) t to symbols vs (step_no_index m b z rest operator)) (leads_step_after n m b us rest z t symbols vs operator)
leads_simple n ts rest s (DerivesSimple.step_before us m z t b operator to) symbols vs closed =
    let loose : Loose 0 rest = closed_loose rest closed in
    leads_step_before n m b us rest z t to symbols vs operator loose.no_index
