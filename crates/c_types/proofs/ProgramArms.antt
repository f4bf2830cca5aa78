-- The first fault of a helper and of the kernel from those of their parts, and the names in force after a helper.
use Rattle.std.proofs.Common.{◌≡◌, ℕ, ◌<◌, Bool, List, [], ◌∷◌, ◌++◌, length, Option, Some, refl, sym, ap, ◌∙◌, append_assoc, append-nil}
use Rattle.c_ast.specs.declared.tree.Param.{Param}
use Rattle.c_ast.specs.declared.tree.Stmt.{Stmt}
use Rattle.c_ast.specs.declared.tree.Tree.{Tree}
use Rattle.c_ast.specs.declared.tree.Helper.{Helper}
use Rattle.c_types.specs.declared.fault.Rule.TheVariants as rule
use Rattle.c_types.specs.declared.fault.Fault.{Fault}
use Rattle.c_types.specs.declared.sort.Sort.TheVariants as sort
use Rattle.c_types.specs.Places.{earlier, first_of}
use Rattle.c_types.specs.Scopes.{is_new_in, with_entry, without_innermost}
use Rattle.c_types.specs.Faults.{Sorts, expr_faults, unless, sort_of_dims, sorts_after_params, block_faults, sorts_at_end}
use Rattle.c_types.specs.ProgramFaults.{helper_faults, sorts_after_helper, helpers_faults, sorts_after_helpers, kernel_faults}
use Rattle.c_types.proofs.FirstFaults.{of_two, of_three}
use Rattle.c_types.proofs.Arms.{outside, with_entry_outside, all_outside, leaves}

-- ---- scopes

params_outside : (ps : List Param) (v : Sorts) → outside (sorts_after_params v ps) ≡ outside v
params_outside [] v = refl
params_outside (p ∷ ps) v = params_outside ps (with_entry p.name (sort_of_dims p.dims) v) ∙ with_entry_outside p.name (sort_of_dims p.dims) v

-- the scopes after a block with parameters in a scope of its own
pub after_block : (v w x y : Sorts) (ps : List Param) (ss : List Stmt) → w ≡ [] ∷ v → 0 < length v → x ≡ sorts_at_end w ps ss → y ≡ without_innermost x → y ≡ v
after_block v w x y ps ss entered some after left =
    left ∙ leaves v x (ap outside after ∙ all_outside ss (sorts_after_params w ps) ∙ params_outside ps w ∙ ap outside entered) some

-- ---- a helper

pub helper_arm : (h : Helper) (qs : List Param) (ss : List Stmt) (v w x y : Sorts) (new : Bool) (a b d n o : Option Fault) → qs ≡ h.params → ss ≡ h.body → w ≡ [] ∷ v → 0 < length v
    → b ≡ first_of (block_faults w qs ss (Some h.result)) → x ≡ sorts_at_end w qs ss → d ≡ first_of (expr_faults x h.value) → y ≡ without_innermost x → new ≡ is_new_in y h.name
    → a ≡ first_of (unless new rule.Redeclared h.at) → n ≡ earlier b d → o ≡ earlier a n → o ≡ first_of (helper_faults v h)
helper_arm h qs ss v w x y new a b d n o params body entered some in_block after in_value left new_is again rest whole =
    let scopes : x ≡ sorts_at_end ([] ∷ v) h.params h.body = after ∙ ap (λ w. sorts_at_end w qs ss) entered ∙ ap (λ qs. sorts_at_end ([] ∷ v) qs ss) params ∙ ap (sorts_at_end ([] ∷ v) h.params) body in
    of_three (unless (is_new_in v h.name) rule.Redeclared h.at) (block_faults ([] ∷ v) h.params h.body (Some h.result)) (expr_faults (sorts_at_end ([] ∷ v) h.params h.body) h.value) (helper_faults v h) a b d o n refl
    (again ∙ ap (λ b. first_of (unless b rule.Redeclared h.at)) (new_is ∙ ap (λ y. is_new_in y h.name) (after_block v w x y qs ss entered some after left)))
    (in_block ∙ ap (λ w. first_of (block_faults w qs ss (Some h.result))) entered ∙ ap (λ qs. first_of (block_faults ([] ∷ v) qs ss (Some h.result))) params
    ∙ ap (λ ss. first_of (block_faults ([] ∷ v) h.params ss (Some h.result))) body)
    (in_value ∙ ap (λ x. first_of (expr_faults x h.value)) scopes) rest whole

pub helper_scopes : (h : Helper) (qs : List Param) (ss : List Stmt) (v w x y z : Sorts) (n : ℕ) → qs ≡ h.params → n ≡ length qs → w ≡ [] ∷ v → 0 < length v → x ≡ sorts_at_end w qs ss
    → y ≡ without_innermost x → z ≡ with_entry h.name (sort.Helper n) y → z ≡ sorts_after_helper v h
helper_scopes h qs ss v w x y z n params long entered some after left done =
    done ∙ ap (with_entry h.name (sort.Helper n)) (after_block v w x y qs ss entered some after left) ∙ ap (λ n. with_entry h.name (sort.Helper n) v) (long ∙ ap length params)

-- ---- helpers one after another

helpers_faults-append : (hs gs : List Helper) (v : Sorts) → helpers_faults v (hs ++ gs) ≡ helpers_faults v hs ++ helpers_faults (sorts_after_helpers v hs) gs
helpers_faults-append [] gs v = refl
helpers_faults-append (h ∷ hs) gs v =
    ap (λ fs. helper_faults v h ++ fs) (helpers_faults-append hs gs (sorts_after_helper v h))
    ∙ sym (append_assoc (helper_faults v h) (helpers_faults (sorts_after_helper v h) hs) (helpers_faults (sorts_after_helpers v (h ∷ hs)) gs))

sorts_after_helpers-append : (hs gs : List Helper) (v : Sorts) → sorts_after_helpers v (hs ++ gs) ≡ sorts_after_helpers (sorts_after_helpers v hs) gs
sorts_after_helpers-append [] gs v = refl
sorts_after_helpers-append (h ∷ hs) gs v = sorts_after_helpers-append hs gs (sorts_after_helper v h)

pub one_more_helper : (hs us : List Helper) (h : Helper) (v w : Sorts) (a b o : Option Fault) → us ≡ hs ++ h ∷ [] → a ≡ first_of (helpers_faults v hs) → w ≡ sorts_after_helpers v hs
    → b ≡ first_of (helper_faults w h) → o ≡ earlier a b → o ≡ first_of (helpers_faults v us)
one_more_helper hs us h v w a b o is p after q e =
    of_two (helpers_faults v hs) (helper_faults (sorts_after_helpers v hs) h) (helpers_faults v us) a b o
    (ap (helpers_faults v) is ∙ helpers_faults-append hs (h ∷ []) v ∙ ap (λ fs. helpers_faults v hs ++ fs) (append-nil (helper_faults (sorts_after_helpers v hs) h)))
    p (q ∙ ap (λ w. first_of (helper_faults w h)) after) e

pub one_more_known : (hs us : List Helper) (h : Helper) (v w x : Sorts) → us ≡ hs ++ h ∷ [] → w ≡ sorts_after_helpers v hs → x ≡ sorts_after_helper w h → x ≡ sorts_after_helpers v us
one_more_known hs us h v w x is after done =
    done ∙ ap (λ w. sorts_after_helper w h) after ∙ sym (sorts_after_helpers-append hs (h ∷ []) v) ∙ sym (ap (sorts_after_helpers v) is)

-- ---- the kernel

pub kernel_arm : (k : Tree) (qs : List Param) (ss : List Stmt) (v w : Sorts) (new : Bool) (a b o : Option Fault) → qs ≡ k.params → ss ≡ k.body → w ≡ [] ∷ v → new ≡ is_new_in v k.name
    → a ≡ first_of (unless new rule.Redeclared k.at) → b ≡ first_of (block_faults w qs ss k.result) → o ≡ earlier a b → o ≡ first_of (kernel_faults v k)
kernel_arm k qs ss v w new a b o params body entered new_is again in_block whole =
    of_two (unless (is_new_in v k.name) rule.Redeclared k.at) (block_faults ([] ∷ v) k.params k.body k.result) (kernel_faults v k) a b o refl
    (again ∙ ap (λ b. first_of (unless b rule.Redeclared k.at)) new_is)
    (in_block ∙ ap (λ w. first_of (block_faults w qs ss k.result)) entered ∙ ap (λ qs. first_of (block_faults ([] ∷ v) qs ss k.result)) params ∙ ap (λ ss. first_of (block_faults ([] ∷ v) k.params ss k.result)) body) whole
