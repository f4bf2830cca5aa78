-- The queue of an array is laid.
use Rattle.std.proofs.Common.{◌≡◌, ℕ, ◌+◌, ◌^◌, ◌<◌, ◌≤◌, List, [], ◌∷◌, length, false, sym, subst, arith, inl, inr}
use Rattle.std.specs.List.{Contains}
use Rattle.std.proofs.lemmas.Bool.{cases_eq}
use Rattle.std.proofs.lemmas.List.Elements.{Contains-append_left, Contains-push}
use Rattle.el_base.specs.declared.ty.Array.{Array}
use Rattle.ir.specs.declared.graph.Block.{Block}
use Rattle.ir.specs.declared.groups.Access.{Access}
use Rattle.ir.specs.declared.groups.Groups.{Groups}
use Rattle.ir.specs.Graphs.{Graph}
use Rattle.net_types.specs.declared.net.Port.{Port}
use Rattle.net_types.specs.declared.net.Unit.{Unit as Kind}
use Rattle.net_types.specs.declared.net.Unit.TheVariants.{Lsq}
use Rattle.circuit_build.specs.declared.draft.Draft.{Draft}
use Rattle.circuit_build.specs.Built.{front_of, whole_draft}
use Rattle.circuit_build.specs.Counted.{queue_for}
use Rattle.circuit_build.specs.Drafts.{with_unit, plus}
use Rattle.circuit_build.specs.Fronts.{started, entered, queue_if, queues_laid, ports_of, groups_from, depth_from}
use Rattle.circuit_build.proofs.Keeps as keeps
use Rattle.circuit_build.proofs.Keeps.{Laid, free, free_few}
use Rattle.circuit_build.proofs.ReadCounts.{is_empty}

abbrev Any : Kind → Type 0
Any k = Unit {0}

abbrev AnyNumber : ℕ → Type 0
AnyNumber n = Unit {0}

any : Laid Any AnyNumber AnyNumber
any = record { const = λ w n. tt; op1 = λ op. tt; op2 = λ op. tt; select = λ w. tt; fork1 = λ w. tt; forks = λ w n l o. tt; mux = λ w n i. tt; merge = λ n i. tt; branch = λ w. tt; sink = λ w. tt }

abbrev Has : Kind → Draft → Type 0
Has x d = Contains d.units x

more : (x k : Kind) (d : Draft) → Any k → Has x d → Has x (with_unit k d)
more x k d f h = Contains-append_left d.units (k ∷ []) x h

same : (x : Kind) (d e : Draft) → e.units ≡ d.units → e.chans ≡ d.chans → Has x d → Has x e
same x d e u c h = subst (λ us. Contains us x) (sym u) h

own_laid : (a m : ℕ) (ps : List Port) (gs : List (List ℕ)) (d : Draft) → is_empty gs ≡ false → Has (Lsq a m ps gs false) (queue_if a ps gs m d)
own_laid a m ps [] d e = absurd (cc)
own_laid a m ps (g ∷ gs) d e = Contains-push d.units (Lsq a m ps (g ∷ gs) false)

abbrev queue_at : List Block → List Access → ℕ → Kind
queue_at blocks of a = Lsq a (depth_from a 16 of) (ports_of a blocks of) (groups_from a 0 of) false

laid_in : (blocks : List Block) (of : List Access) (a i : ℕ) (xs : List Array) (d : Draft) → i ≤ a → a < i + length xs → i + length xs < 2 ^ 32 → is_empty (groups_from a 0 of) ≡ false → Has (queue_at blocks of a) (queues_laid blocks of i xs d)
laid_in blocks of a i [] d le lt few e = absurd (omega arith)
laid_in blocks of a i (x ∷ xs) d le lt few e =
    let f = queue_if i (ports_of i blocks of) (groups_from i 0 of) (depth_from i 16 of) d in
    let k = queue_at blocks of a in
    elim (cases_eq i a) [
      | inl here ↦ (let own : Has k f = subst (λ j. Has k (queue_if j (ports_of j blocks of) (groups_from j 0 of) (depth_from j 16 of) d)) (sym here) (own_laid a (depth_from a 16 of) (ports_of a blocks of) (groups_from a 0 of) d e) in
          keeps.queues_keep (Has k) Any AnyNumber AnyNumber any (more k) (λ p q w c d h. h) (same k) (λ b m ps gs. tt) blocks of (plus i 1) xs f own)
      | inr ne ↦ (let after : i < a = not_last i a le ne in laid_in blocks of a (plus i 1) xs f (omega arith) (omega arith) (omega arith) e)
    ]
  where
    not_last : (i j : ℕ) → i ≤ j → ¬ (i ≡ j) → i < j
    not_last i j le ne = grind (arith, le, ne)

pub queue_is_laid : (g : Graph) (gs : Groups) (a : ℕ) → length g.arrays < 2 ^ 32 → a < length g.arrays → is_empty (groups_from a 0 gs.of) ≡ false → Contains (whole_draft g gs).units (queue_for g gs a)
queue_is_laid g gs a few lt e =
    let k = queue_for g gs a in
    let f : Has k (front_of g gs) = laid_in g.blocks gs.of a 0 g.arrays (entered g.scalars (started (length g.blocks + 1))) (omega arith) (omega arith) (omega (arith, few)) e in
    keeps.after_front (Has k) Any AnyNumber AnyNumber any (more k) (λ p q w c d h. h) (same k) (λ b. tt) tt g gs (λ t. tt) (free g.blocks) free_few f
