-- The graph over arguments is well formed.
use Rattle.std.proofs.Common.{◌≡◌, ℕ, zero, suc, ◌+◌, ◌<◌, ◌⊎◌, List, [], ◌∷◌, ◌++◌, map, length, get_or, Option, Some, refl, sym, ◌∙◌, ap, subst, arith, length-append, inl, inr}
use Rattle.std.specs.Prelude.{Bool, true, false, ◌==◌, slice_get, option_map, if◌then◌else◌}
use Rattle.std.specs.List.{Contains, AllByRecursion}
use Rattle.std.proofs.lemmas.Bool.{eqb-true, eq-eqb}
use Rattle.std.proofs.lemmas.Option.{same_Some, get_or_from_slice_get, slice_get-get_or, slice_get-map}
use Rattle.std.proofs.lemmas.List.{length-map}
use Rattle.std.proofs.lemmas.List.Elements.{recursion_from_All}
use Rattle.el_base.specs.declared.ty.Array.{Array}
use Rattle.ir.specs.declared.instr.Instr.{Instr}
use Rattle.ir.specs.declared.cfg.CfgBlock.{CfgBlock}
use Rattle.ir.specs.declared.cfg.Write.{Write}
use Rattle.ir.specs.Shapes.{Shape, IsOfWidth, step_width, shape_after}
use Rattle.ir.specs.Variables.{VarGraph, IsVarGraph, IsWrite, read_shape}
use Rattle.ir.specs.Graphs.{AreHanded}
use Rattle.ir.specs.Renaming.{KeepsWidths, RenamedFit, MayName}
use Rattle.ir.proofs.Fitting.{renamed_steps_fit}
use Rattle.block_args.specs.Live.{IsWritten}
use Rattle.block_args.specs.Arguments.{place_in, new_number, after_writes, handed_to, new_steps}
use Rattle.block_args.proofs.Held.{placed}
use Rattle.block_args.proofs.Passages.{every, IsNamed, NamesWrites, Names, Handed, this_or_later, number_of_read, number_of_step}
use Rattle.block_args.proofs.Named.{fine_block}

-- ---- shapes

kept_shape : (arrays : List Array) (ws : Shape) (is : List Instr) (a : ℕ) → a < length ws → slice_get (shape_after arrays ws is) a ≡ slice_get ws a
kept_shape arrays ws [] a h = refl
kept_shape arrays ws (i ∷ is) a h = kept_shape arrays (ws ++ step_width arrays i ∷ []) is a (omega (arith, length-append ws (step_width arrays i ∷ []))) ∙ in_front ws (step_width arrays i) a h
  where
    in_front : (us : Shape) (x : Option ℕ) (k : ℕ) → k < length us → slice_get (us ++ x ∷ []) k ≡ slice_get us k
    in_front [] x k lt = absurd (omega arith)
    in_front (u ∷ us) x zero lt = refl
    in_front (u ∷ us) x (suc k) lt = in_front us x k (omega arith)

-- the widths of the variables that a block holds
abbrev pub held_shape : List ℕ → List ℕ → Shape
held_shape vars held = map (λ y. Some (get_or vars y 0)) held

pub held_width : (vars held : List ℕ) (y : ℕ) → Contains held y → IsOfWidth (held_shape vars held) (place_in held y) (get_or vars y 0)
held_width vars held y h =
    let p = placed held y h in
    let there : slice_get held (place_in held y) ≡ Some y = slice_get-get_or held (place_in held y) 0 p.below ∙ ap Some p.there in
    slice_get-map (λ z. Some (get_or vars z 0)) held (place_in held y) ∙ ap (option_map (λ z. Some (get_or vars z 0))) there

-- ---- the steps of a block fit where they begin with what it holds

module _ (g : VarGraph) (fine : IsVarGraph g) (n : ℕ) (b : CfgBlock) (is_there : slice_get g.blocks n ≡ Some b) (held : List ℕ) (nms : Names held b) where
  keeps : KeepsWidths every (new_number held b.reads) (length b.reads) 0 (read_shape g b) (held_shape g.vars held)
  keeps a w (inl (lt, kept)) h =
      let r = get_or b.reads a 0 in
      let is_read : slice_get b.reads a ≡ Some r = slice_get-get_or b.reads a 0 lt in
      let read : Some (slice_get g.vars r) ≡ Some (Some w) = sym (slice_get-map (slice_get g.vars) b.reads a ∙ ap (option_map (slice_get g.vars)) is_read) ∙ h in
      let width : get_or g.vars r 0 ≡ w = get_or_from_slice_get g.vars r w 0 (same_Some (slice_get g.vars r) (Some w) read) in
      subst (λ k. IsOfWidth (held_shape g.vars held) k w) (sym (number_of_read held b.reads a lt))
      (subst (λ k. IsOfWidth (held_shape g.vars held) (place_in held r) k) width (held_width g.vars held r (nms.reads a lt)))
  keeps a w (inr (i, lt, is)) h = absurd (omega arith)

  pub steps_fit : RenamedFit every (new_number held b.reads) (length b.reads) 0 g.arrays (read_shape g b) (held_shape g.vars held) b.steps
  steps_fit =
      renamed_steps_fit every (new_number held b.reads) (length b.reads) (length held) (number_of_step held b.reads) g.arrays b.steps 0 (read_shape g b) (held_shape g.vars held)
      (omega (arith, length-map b.reads (slice_get g.vars))) (let e : length (held_shape g.vars held) ≡ length held = length-map held _ in omega arith) keeps nms.steps (fine_block g fine n b is_there).steps

  abbrev pub new_shape : Shape
  new_shape = shape_after g.arrays (held_shape g.vars held) (new_steps held b)

  abbrev pub old_shape : Shape
  old_shape = shape_after g.arrays (read_shape g b) b.steps

  pub value_wide : (a w : ℕ) → IsNamed b a → IsOfWidth old_shape a w → IsOfWidth new_shape (new_number held b.reads a) w
  value_wide a w named h =
      let e : length b.steps ≡ 0 + length b.steps = omega arith in
      steps_fit.widths a w (subst (λ k. MayName every (length b.reads) k a) e named) h

  kept_wide : (y : ℕ) → Contains held y → IsOfWidth new_shape (place_in held y) (get_or g.vars y 0)
  kept_wide y h =
      let p = placed held y h in
      let l : length (held_shape g.vars held) ≡ length held = length-map held _ in
      kept_shape g.arrays (held_shape g.vars held) (new_steps held b) (place_in held y) (let q = p.below in omega arith) ∙ held_width g.vars held y h

  write_wide : (x : Write) (y number : ℕ) → IsWrite g old_shape x → IsNamed b x.value → IsOfWidth new_shape number (get_or g.vars y 0) ⊎ (x.var ≡ y)
      → IsOfWidth new_shape (if x.var == y then new_number held b.reads x.value else number) (get_or g.vars y 0)
  write_wide x y number h named good = by (x.var == y) refl good
    where
      by : (c : Bool) → (x.var == y) ≡ c → IsOfWidth new_shape number (get_or g.vars y 0) ⊎ (x.var ≡ y) → IsOfWidth new_shape (if c then new_number held b.reads x.value else number) (get_or g.vars y 0)
      by true e k =
          let width : h.0 ≡ get_or g.vars y 0 = sym (get_or_from_slice_get g.vars x.var h.0 0 h.1) ∙ ap (λ i. get_or g.vars i 0) (eqb-true x.var y e) in
          subst (λ w. IsOfWidth new_shape (new_number held b.reads x.value) w) width (value_wide x.value h.0 named h.2)
      by false e (inl k) = k
      by false e (inr is) = absurd (let t : (x.var == y) ≡ true = eq-eqb x.var y is in cc)

  after_wide : (xs : List Write) → AllByRecursion (IsWrite g old_shape) xs → NamesWrites b xs → (y number : ℕ) → IsOfWidth new_shape number (get_or g.vars y 0) ⊎ IsWritten xs y
      → IsOfWidth new_shape (after_writes (new_number held b.reads) xs y number) (get_or g.vars y 0)
  after_wide [] h named y number (inl k) = k
  after_wide [] h named y number (inr w) = absurd (let z = w.is_write in cc)
  after_wide (x ∷ xs) h named y number good = after_wide xs h.1 named.1 y (if x.var == y then new_number held b.reads x.value else number) (more good)
    where
      more : IsOfWidth new_shape number (get_or g.vars y 0) ⊎ IsWritten (x ∷ xs) y
          → IsOfWidth new_shape (if x.var == y then new_number held b.reads x.value else number) (get_or g.vars y 0) ⊎ IsWritten xs y
      more (inl k) = inl (write_wide x y number h.0 named.0 (inl k))
      more (inr w) = elim (this_or_later x xs y w) [ inl is ↦ inl (write_wide x y number h.0 named.0 (inr is)) | inr later ↦ inr later ]

  all_handed : (wanted : List ℕ) (m : ℕ → ℕ) → ((y : ℕ) → Contains wanted y → IsOfWidth new_shape (m y) (get_or g.vars y 0)) → AreHanded new_shape (map m wanted) (map (λ y. get_or g.vars y 0) wanted)
  all_handed [] m h = tt
  all_handed (y ∷ ys) m h = (h y (0, omega arith, refl), all_handed ys m (λ z k. h z (suc k.0, (let lt = k.1 in omega arith), k.2)))

  pub handed_wide : (wanted : List ℕ) → Handed held wanted b (length g.vars) → AreHanded new_shape (handed_to held wanted b) (map (λ y. get_or g.vars y 0) wanted)
  handed_wide wanted h =
      all_handed wanted (λ y. after_writes (new_number held b.reads) b.writes y (place_in held y))
      (λ y k. after_wide b.writes (recursion_from_All (IsWrite g old_shape) b.writes (fine_block g fine n b is_there).writes) nms.writes y (place_in held y) (by y (h.each y k)))
    where
      by : (y : ℕ) → IsWritten b.writes y ⊎ Contains held y → IsOfWidth new_shape (place_in held y) (get_or g.vars y 0) ⊎ IsWritten b.writes y
      by y (inl w) = inr w
      by y (inr k) = inl (kept_wide y k)
