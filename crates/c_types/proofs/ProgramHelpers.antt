-- The typed program of helpers and a kernel from the casts of their blocks, and what each block keeps behind the helpers before.
use Rattle.std.proofs.Common.{◌≡◌, ℕ, ◌+◌, ◌<◌, ◌≤◌, false, List, [], ◌∷◌, ◌++◌, length, map, take, drop, get_or, Option, Some, sym, ap, subst, ◌∙◌, arith, append_assoc, append-nil}
use Rattle.std.proofs.lemmas.List.{take-append-drop}
use Rattle.std.proofs.lemmas.List.Sums.{sum_by-cons}
use Rattle.el_base.specs.Limits.{IsNumbered}
use Rattle.el_base.specs.declared.ty.Ty.{Ty}
use Rattle.c_ast.specs.declared.tree.Param.{Param}
use Rattle.c_ast.specs.declared.tree.Stmt.{Stmt}
use Rattle.c_ast.specs.declared.tree.Tree.{Tree}
use Rattle.c_ast.specs.declared.tree.Helper.{Helper}
use Rattle.c_ast.specs.declared.tree.Program.{Program}
use Rattle.c_ast.specs.declared.typed.ArrayOf.{ArrayOf}
use Rattle.c_ast.specs.declared.program.ProgExpr.{ProgExpr}
use Rattle.c_ast.specs.declared.program.ProgStmt.{ProgStmt}
use Rattle.c_ast.specs.declared.program.ProgTree.{ProgTree}
use Rattle.c_ast.specs.declared.program.TypedHelper.{TypedHelper}
use Rattle.c_ast.specs.declared.program.TypedProgram.{TypedProgram}
use Rattle.c_ast.specs.Nodes.{params_nodes, stmts_nodes}
use Rattle.c_ast.specs.Typing.{Sort, scope_of, TypingExpr, TypingList}
use Rattle.c_ast.specs.Programs.{helper_nodes, helpers_nodes, program_nodes, names_after_list, with_helper, TypingHelper, TypingHelpers, known_after, TypingProgram}
use Rattle.c_ast.specs.Casts.{parameters, first_context}
use Rattle.c_ast.specs.ProgramCasts as program
use Rattle.c_ast.specs.ProgramCasts.{known_of, CastsCallStmts, CastsHelper, CastsHelpers, no_helpers, a_helper, CastsProgram}
use Rattle.c_types.specs.declared.known.Known.{Known}
use Rattle.c_types.specs.Contexts.{AreParameters, context_of}
use Rattle.c_types.specs.ProgramContexts.{callees, IsProgConverted, AreProgStmts, IsProgKernel}
use Rattle.c_types.specs.ProgramParts.{Knows, Around, names_with, TypingExprWith, TypingListWith, TypingHelperWith, TypingKernelWith}
use Rattle.c_types.proofs.CastParams.{dims_in, first_is}
use Rattle.c_types.proofs.ParameterParts.{names_after, counted_by_nodes, declared}
use Rattle.c_types.proofs.Items.{item_here}
use Rattle.c_types.proofs.ProgramNames.{knows_none, knows_more}
use Rattle.c_types.proofs.ProgramStatementParts.{length_in, after_statements}

-- ---- a block with parameters, behind helpers

abbrev around : (gs : List Helper) (xs : List ArrayOf) (known : List (List ℕ × Sort)) → Knows (callees gs) known → IsNumbered (length gs) → Around gs
around gs xs known w few = record { dims = dims_in xs; known = known; callees_known = w; callees_numbered = few }

names_there : (gs : List Helper) (k : Known) (xs : List ArrayOf) (ps : List Param) (known : List (List ℕ × Sort)) (w : Knows (callees gs) known) (few : IsNumbered (length gs)) → AreParameters k xs (parameters ps)
    → names_with (around gs xs known w few) k.scopes ≡ scope_of ps [] ∷ known ∷ []
names_there gs k xs ps known w few h = ap (λ names. names ++ known ∷ []) (names_after k xs ps h)

some_there : (k : Known) (xs : List ArrayOf) (ps : List Param) → AreParameters k xs (parameters ps) → 0 < length k.scopes
some_there k xs ps h =
    let one : length k.scopes ≡ 1 = sym (length_in [] (dims_in xs) k.scopes) ∙ ap length (names_after k xs ps h) in
    omega (arith, one)

block_typing : (gs : List Helper) (k : Known) (xs : List ArrayOf) (ps : List Param) (ss : List Stmt) (r : Option Ty) (known : List (List ℕ × Sort)) → Knows (callees gs) known → IsNumbered (length gs)
    → AreParameters k xs (parameters ps) → TypingList ss r false (scope_of ps [] ∷ known ∷ []) → IsNumbered (params_nodes ps + stmts_nodes ss) → TypingListWith gs r k.scopes (length k.types) ss
block_typing gs k xs ps ss r known w few h keeps many =
    let types : length k.types ≡ length (parameters ps).types = ap length h.types_are in
    record {
      around = around gs xs known w few;
      loop = false;
      some = some_there k xs ps h;
      typing = subst (TypingList ss r false) (sym (names_there gs k xs ps known w few h)) keeps;
      numbered = omega (arith, many, types, counted_by_nodes ps, declared ps (record { scope = []; types = []; arrays = [] }));
    }

pub helper_params : (gs : List Helper) (h : Helper) (ps : List Param) → ps ≡ h.params → TypingHelperWith gs h → IsNumbered (length ps)
helper_params gs h ps is t = let same : length ps ≡ length h.params = ap length is in omega (arith, t.numbered, same, counted_by_nodes h.params)

pub helper_body : (gs : List Helper) (h : Helper) (k : Known) (xs : List ArrayOf) (ps : List Param) (ss : List Stmt) → ps ≡ h.params → ss ≡ h.body → TypingHelperWith gs h → AreParameters k xs (parameters ps)
    → TypingListWith gs (Some h.result) k.scopes (length k.types) ss
helper_body gs h k xs ps ss is body t q =
    subst (TypingListWith gs (Some h.result) k.scopes (length k.types)) (sym body)
    (block_typing gs k xs h.params h.body (Some h.result) t.known t.callees_known t.callees_numbered (subst (λ ps. AreParameters k xs (parameters ps)) is q) t.keeps.body_keeps (omega (arith, t.numbered)))

pub helper_value : (gs : List Helper) (h : Helper) (k l : Known) (xs : List ArrayOf) (ps : List Param) (ss : List Stmt) (ts : List ProgStmt) → ps ≡ h.params → ss ≡ h.body → TypingHelperWith gs h → AreParameters k xs (parameters ps)
    → AreProgStmts gs (Some h.result) k ss ts l → TypingExprWith gs l.scopes h.value
helper_value gs h k l xs ps ss ts is body t q done =
    let w : Around gs = around gs xs t.known t.callees_known t.callees_numbered in
    let p : AreParameters k xs (parameters h.params) = subst (λ ps. AreParameters k xs (parameters ps)) is q in
    let d : AreProgStmts gs (Some h.result) k h.body ts l = subst (λ ss. AreProgStmts gs (Some h.result) k ss ts l) body done in
    let names : names_with w l.scopes ≡ names_after_list (scope_of h.params [] ∷ t.known ∷ []) h.body =
    after_statements gs (Some h.result) w k l h.body ts (some_there k xs h.params p) d ∙ ap (λ names. names_after_list names h.body) (names_there gs k xs h.params t.known t.callees_known t.callees_numbered p) in
    record { around = w; typing = subst (λ names. TypingExpr names h.value) (sym names) t.keeps.value_keeps }

pub kernel_params : (gs : List Helper) (k : Tree) (ps : List Param) → ps ≡ k.params → TypingKernelWith gs k → IsNumbered (length ps)
kernel_params gs k ps is t = let same : length ps ≡ length k.params = ap length is in omega (arith, t.numbered, same, counted_by_nodes k.params)

pub kernel_body : (gs : List Helper) (tree : Tree) (k : Known) (xs : List ArrayOf) (ps : List Param) (ss : List Stmt) → ps ≡ tree.params → ss ≡ tree.body → TypingKernelWith gs tree → AreParameters k xs (parameters ps)
    → TypingListWith gs tree.result k.scopes (length k.types) ss
kernel_body gs tree k xs ps ss is body t q =
    subst (TypingListWith gs tree.result k.scopes (length k.types)) (sym body)
    (block_typing gs k xs tree.params tree.body tree.result t.known t.callees_known t.callees_numbered (subst (λ ps. AreParameters k xs (parameters ps)) is q) t.body_keeps (omega (arith, t.numbered)))

-- ---- typed helpers and kernels

block_casts : (gs : List Helper) (r : Option Ty) (k l : Known) (xs : List ArrayOf) (ps qs : List Param) (ss us : List Stmt) (ts vs : List ProgStmt) → ps ≡ qs → ss ≡ us → vs ≡ ts → AreParameters k xs (parameters ps)
    → AreProgStmts gs r k ss ts l → CastsCallStmts (callees gs) r (first_context qs) us vs (context_of (dims_in xs) l)
block_casts gs r k l xs ps qs ss us ts vs params body made h hs =
    let q : AreParameters k xs (parameters qs) = subst (λ ps. AreParameters k xs (parameters ps)) params h in
    subst (λ vs. CastsCallStmts (callees gs) r (first_context qs) us vs (context_of (dims_in xs) l)) (sym made)
    (subst (λ ss. CastsCallStmts (callees gs) r (first_context qs) ss ts (context_of (dims_in xs) l)) body
    (subst (λ c. CastsCallStmts (callees gs) r c ss ts (context_of (dims_in xs) l)) (first_is k xs qs q) (hs.casts (dims_in xs))))

pub helper_arm : (gs : List Helper) (h : Helper) (k l : Known) (xs : List ArrayOf) (ps : List Param) (ss : List Stmt) (ts : List ProgStmt) (g : ProgExpr) (t : TypedHelper) → ps ≡ h.params → ss ≡ h.body
    → AreParameters k xs (parameters ps) → AreProgStmts gs (Some h.result) k ss ts l → IsProgConverted gs h.result l.scopes h.value g → t.name ≡ h.name → t.at ≡ h.at → t.result ≡ h.result → t.params ≡ h.params → t.vars ≡ l.types
    → t.body ≡ ts → t.value ≡ g → CastsHelper (callees gs) h t
helper_arm gs h k l xs ps ss ts g t is body q hs value name at result params vars made value_is = record {
  same_name = name;
  same_place = at;
  same_result = result;
  same_params = params;
  last = context_of (dims_in xs) l;
  body_casts = block_casts gs (Some h.result) k l xs ps h.params ss h.body ts t.body is body made q hs;
  value = value.value;
  value_casts = value.casts.casts (dims_in xs) l.types;
  value_is = value_is ∙ value.converted;
  vars_are = vars;
}

pub kernel_arm : (gs : List Helper) (tree : Tree) (k l : Known) (xs : List ArrayOf) (ps : List Param) (ss : List Stmt) (ts : List ProgStmt) (t : ProgTree) → ps ≡ tree.params → ss ≡ tree.body
    → AreParameters k xs (parameters ps) → AreProgStmts gs tree.result k ss ts l → t.name ≡ tree.name → t.at ≡ tree.at → t.result ≡ tree.result → t.params ≡ tree.params → t.vars ≡ l.types → t.arrays ≡ xs
    → t.body ≡ ts → IsProgKernel gs tree t
kernel_arm gs tree k l xs ps ss ts t is body q hs name at result params vars arrays made =
    let p : AreParameters k xs (parameters tree.params) = subst (λ ps. AreParameters k xs (parameters ps)) is q in
    record {
      same_name = name;
      same_place = at;
      same_result = result;
      same_params = params;
      arrays_are = arrays ∙ p.arrays_are;
      last = context_of (dims_in xs) l;
      body_casts = block_casts gs tree.result k l xs ps tree.params ss tree.body ts t.body is body made q hs;
      vars_are = vars;
    }

-- ---- helpers one after another

pub no_helper : (ks : List TypedHelper) → ks ≡ [] → CastsHelpers [] [] ks
no_helper ks h = subst (CastsHelpers [] []) (sym h) (no_helpers [])

more_helpers : {hs : List program.Known} {us : List Helper} {ks : List TypedHelper} (h : Helper) (k : TypedHelper) → CastsHelpers hs us ks → CastsHelper (hs ++ map known_of us) h k
    → CastsHelpers hs (us ++ h ∷ []) (ks ++ k ∷ [])
more_helpers h k (no_helpers hs) c = a_helper hs h k [] [] (subst (λ hs. CastsHelper hs h k) (append-nil hs) c) (no_helpers (hs ++ known_of h ∷ []))
more_helpers h k (a_helper hs g j more js p q) c =
    a_helper hs g j (more ++ h ∷ []) (js ++ k ∷ []) p (more_helpers h k q (subst (λ hs. CastsHelper hs h k) (sym (append_assoc hs (known_of g ∷ []) (map known_of more))) c))

pub one_more_helper : (us vs : List Helper) (h : Helper) (ks js : List TypedHelper) (k : TypedHelper) → vs ≡ us ++ h ∷ [] → CastsHelpers [] us ks → CastsHelper (callees us) h k → js ≡ ks ++ k ∷ [] → CastsHelpers [] vs js
one_more_helper us vs h ks js k is hs c made = subst (λ vs. CastsHelpers [] vs js) (sym is) (subst (CastsHelpers [] (us ++ h ∷ [])) (sym made) (more_helpers h k hs c))

knows_front : (us rest : List Helper) (hs : List program.Known) (known : List (List ℕ × Sort)) → Knows hs known → TypingHelpers known (us ++ rest) → Knows (hs ++ map known_of us) (known_after known us)
knows_front [] rest hs known w keep = subst (λ hs. Knows hs known) (sym (append-nil hs)) w
knows_front (u ∷ us) rest hs known w keep =
    subst (λ gs. Knows gs (known_after known (u ∷ us))) (append_assoc hs (known_of u ∷ []) (map known_of us))
    (knows_front us rest (hs ++ known_of u ∷ []) (with_helper u known) (knows_more hs known u w keep.0.rule_21_new) keep.1)

helper_there : (us rest : List Helper) (h : Helper) (known : List (List ℕ × Sort)) → TypingHelpers known (us ++ h ∷ rest) → TypingHelper (known_after known us) h
helper_there [] rest h known keep = keep.0
helper_there (u ∷ us) rest h known keep = helper_there us rest h (with_helper u known) keep.1

few_before : (us rest : List Helper) (h : Helper) → length us + helper_nodes h ≤ helpers_nodes (us ++ h ∷ rest)
few_before [] rest h = omega (arith, sum_by-cons helper_nodes h rest)
few_before (u ∷ us) rest h =
    let one : 1 ≤ helper_nodes u = omega arith in
    omega (arith, one, few_before us rest h, sum_by-cons helper_nodes u (us ++ h ∷ rest))

-- a helper of a list that is gone over, behind those before it
pub helper_here : (hs us : List Helper) (i : ℕ) (h : Helper) → us ≡ take i hs → i < length hs → h ≡ get_or hs i h → TypingHelpers [] hs → IsNumbered (helpers_nodes hs) → TypingHelperWith us h
helper_here hs us i h slice lt is keep few =
    let split : hs ≡ us ++ h ∷ drop (i + 1) hs = sym (take-append-drop i hs) ∙ ap (λ rest. take i hs ++ rest) (item_here hs i h lt is) ∙ ap (λ us. us ++ h ∷ drop (i + 1) hs) (sym slice) in
    let rest : List Helper = drop (i + 1) hs in
    let keeps : TypingHelpers [] (us ++ h ∷ rest) = subst (TypingHelpers []) split keep in
    let many : IsNumbered (helpers_nodes (us ++ h ∷ rest)) = subst (λ hs. IsNumbered (helpers_nodes hs)) split few in
    record {
      known = known_after [] us;
      callees_known = knows_front us (h ∷ rest) [] [] knows_none keeps;
      callees_numbered = omega (arith, many, few_before us rest h);
      keeps = helper_there us rest h [] keeps;
      numbered = omega (arith, many, few_before us rest h);
    }

-- ---- programs

counted_by_helpers : (hs : List Helper) → length hs ≤ helpers_nodes hs
counted_by_helpers [] = omega arith
counted_by_helpers (h ∷ hs) = let one : 1 ≤ helper_nodes h = omega arith in omega (arith, one, counted_by_helpers hs, sum_by-cons helper_nodes h hs)

pub helpers_few : (p : Program) (hs : List Helper) → hs ≡ p.helpers → IsNumbered (program_nodes p) → IsNumbered (helpers_nodes hs)
helpers_few p hs is few = subst (λ hs. IsNumbered (helpers_nodes hs)) (sym is) (omega (arith, few))

pub kernel_here : (p : Program) (hs : List Helper) → hs ≡ p.helpers → TypingProgram p → IsNumbered (program_nodes p) → TypingKernelWith hs p.kernel
kernel_here p hs is keep few =
    subst (λ hs. TypingKernelWith hs p.kernel) (sym is)
    (record {
      known = known_after [] p.helpers;
      callees_known = knows_front p.helpers [] [] [] knows_none (subst (TypingHelpers []) (sym (append-nil p.helpers)) keep.helpers_keep);
      callees_numbered = omega (arith, few, counted_by_helpers p.helpers);
      params_keep = keep.params_keep;
      body_keeps = keep.body_keeps;
      numbered = omega (arith, few);
    })

pub program_arm : (p : Program) (P : TypedProgram) (hs : List Helper) (ks : List TypedHelper) (k : ProgTree) → hs ≡ p.helpers → CastsHelpers [] hs ks → IsProgKernel hs p.kernel k → P.helpers ≡ ks → P.kernel ≡ k → CastsProgram p P
program_arm p P hs ks k is h c helpers kernel =
    let typed : CastsHelpers [] p.helpers P.helpers = subst (λ ks. CastsHelpers [] p.helpers ks) (sym helpers) (subst (λ hs. CastsHelpers [] hs ks) is h) in
    let d : IsProgKernel p.helpers p.kernel P.kernel = subst (IsProgKernel p.helpers p.kernel) (sym kernel) (subst (λ hs. IsProgKernel hs p.kernel k) is c) in
    record {
      helpers_cast = typed;
      same_name = d.same_name;
      same_place = d.same_place;
      same_result = d.same_result;
      same_params = d.same_params;
      arrays_are = d.arrays_are;
      last = d.last;
      body_casts = d.body_casts;
      vars_are = d.vars_are;
    }
