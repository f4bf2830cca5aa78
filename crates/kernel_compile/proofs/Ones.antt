-- A kernel has one circuit by the same options.
use Rattle.std.proofs.Common.{◌≡◌, ℕ, ◌<◌, Bool, true, false, List, length, get_or, refl, sym, ap, subst, ◌∙◌}
use Rattle.std.specs.Prelude.{slice_get, Some}
use Rattle.std.proofs.lemmas.List.{ext_get_or}
use Rattle.std.proofs.lemmas.Option.{slice_get-get_or}
use Rattle.c_ast.specs.declared.typed.Typed.{Typed}
use Rattle.ir.specs.declared.groups.Groups.{Groups}
use Rattle.ir.specs.Accesses.{IsStoredTo, GroupsShare, accesses_from}
use Rattle.ir.specs.Graphs.{Graph}
use Rattle.net_types.specs.declared.net.Net.{Net}
use Rattle.kernel_graph.specs.Laws.{GraphsAreOne}
use Rattle.circuit_build.specs.Built.{built}
use Rattle.buffer_place.specs.Placing.{IsPlaced, PlacementsAreOne, WalksAreWithinDepth}
use Rattle.queue_marks.specs.Marked.{marked}
use Rattle.kernel_compile.specs.Compiling.{CircuitsAreOne, CircuitsAreWithinDepth}
use Rattle.kernel_compile.specs.Layers.{IsKernelNet}

-- ---- groups

same_flag : (P : Type 0) (x y : Bool) → (x ≡ true → P → ⊥) → (x ≡ false → P) → (y ≡ true → P → ⊥) → (y ≡ false → P) → x ≡ y
same_flag P true true a b c d = refl
same_flag P true false a b c d = absurd (a refl (d refl))
same_flag P false true a b c d = absurd (c refl (b refl))
same_flag P false false a b c d = refl

module _ (g : Graph) (a b : Groups) (p : GroupsShare g a) (q : GroupsShare g b) where
  flags_many : length a.read_only ≡ length b.read_only
  flags_many = p.as_many ∙ sym q.as_many

  flag_at : (rs : List Bool) (n : ℕ) (x : Bool) → n < length rs → get_or rs n false ≡ x → slice_get rs n ≡ Some x
  flag_at rs n x l e = slice_get-get_or rs n false l ∙ ap Some e

  flags_one : a.read_only ≡ b.read_only
  flags_one = ext_get_or false a.read_only b.read_only flags_many each
    where
      each : (n : ℕ) → n < length a.read_only → get_or a.read_only n false ≡ get_or b.read_only n false
      each n l =
          let l2 : n < length b.read_only = subst (λ x. n < x) flags_many l in
          same_flag (IsStoredTo g n) (get_or a.read_only n false) (get_or b.read_only n false) (λ e. p.read_only n (flag_at a.read_only n true l e)) (λ e. p.stored_to n (flag_at a.read_only n false l e))
          (λ e. q.read_only n (flag_at b.read_only n true l2 e)) (λ e. q.stored_to n (flag_at b.read_only n false l2 e))

  groups_one : a ≡ b
  groups_one =
      let of : a.of ≡ b.of = p.accesses ∙ ap (λ rs. accesses_from rs 0 g.blocks) flags_one ∙ sym q.accesses in
      λ i. record { read_only = flags_one i; of = of i }

-- ---- nets of graphs

nets_one : GraphsAreOne → (k : Typed) (m n : Net) → IsKernelNet k m → IsKernelNet k n → m ≡ n
nets_one one k m n a b =
    let graphs : a.graph ≡ b.graph = one k a.graph b.graph a.made b.made in
    let shares : GroupsShare b.graph a.groups = subst (λ g. GroupsShare g a.groups) graphs a.accesses in
    a.is ∙ ap (λ g. built g a.groups) graphs ∙ ap (built b.graph) (groups_one b.graph a.groups b.groups shares b.accesses) ∙ sym b.is

-- ---- circuits

pub circuits_one : GraphsAreOne → PlacementsAreOne → CircuitsAreOne
circuits_one one placed t forward k m n a b =
    let same : a.plain ≡ b.plain = nets_one one k a.plain b.plain a.of_graph b.of_graph in
    placed t (marked forward b.plain) m n (subst (λ x. IsPlaced t (marked forward x) m) same a.placed) b.placed

pub walks_within : WalksAreWithinDepth → CircuitsAreWithinDepth
walks_within within t forward k depth net timing is c = within t depth (marked forward c.plain) net timing is c.placed
