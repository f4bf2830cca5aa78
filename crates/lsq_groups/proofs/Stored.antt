-- The arrays that no step stores to, as tests tell them and as the definition does.
use Rattle.std.proofs.Common.{◌≡◌, ℕ, zero, suc, ◌<◌, List, [], ◌∷◌, length, Some, arith, refl, sym, ap, ◌∙◌}
use Rattle.std.specs.Prelude.{Bool, true, false, not, slice_get}
use Rattle.std.specs.List.{list_any}
use Rattle.std.proofs.lemmas.Bool.{eqb-true, eq-eqb}
use Rattle.std.proofs.lemmas.List.Folds.{list_any_at}
use Rattle.std.proofs.lemmas.Option.{same_Some, slice_get_within, get_or_from_slice_get}
use Rattle.ir.specs.declared.instr.Instr.{Instr}
use Rattle.ir.specs.declared.instr.Instr.TheVariants.{Const, One, Two, Select, Load, Store}
use Rattle.ir.specs.declared.groups.Access.{Access}
use Rattle.ir.specs.Graphs.{Graph}
use Rattle.ir.specs.Accesses.{IsStoredTo, accesses_from, GroupsShare}
use Rattle.lsq_groups.specs.Stores.{is_store_to, has_store_to, is_stored_to, TellsReadOnly}

-- ---- an item that passes a test

record Found {X : Type 0} (p : X → Bool) (xs : List X) : Type 0 where
  at : ℕ
  item : X
  is_there : slice_get xs at ≡ Some item
  passes : p item ≡ true

further : {X : Type 0} (p : X → Bool) (x : X) (xs : List X) → Found p xs → Found p (x ∷ xs)
further p x xs f = record { at = suc f.at; item = f.item; is_there = f.is_there; passes = f.passes }

found : {X : Type 0} (p : X → Bool) (xs : List X) → list_any p xs ≡ true → Found p xs
found p [] h = absurd (cc)
found {X} p (x ∷ xs) h = by (p x) refl (λ rest. found p xs rest)
  where
    by : (b : Bool) → p x ≡ b → (list_any p xs ≡ true → Found p xs) → Found p (x ∷ xs)
    by true e r = record { at = zero; item = x; is_there = refl; passes = e }
    by false e r =
        let rest : list_any p xs ≡ true = rw e at h in
        further p x xs (r rest)

any_at : {X : Type 0} (p : X → Bool) (xs : List X) (i : ℕ) (x : X) → slice_get xs i ≡ Some x → p x ≡ true → list_any p xs ≡ true
any_at p xs i x h e = list_any_at p xs i x (slice_get_within xs i x h) (ap p (get_or_from_slice_get xs i x x h) ∙ e)

-- ---- stores

record IsStore (a : ℕ) (i : Instr) : Type 0 where
  addr : ℕ
  value : ℕ
  is : i ≡ Store a addr value

store_of : (a : ℕ) (i : Instr) → is_store_to a i ≡ true → IsStore a i
store_of a (Const w n) h = absurd (cc)
store_of a (One op x) h = absurd (cc)
store_of a (Two op x y) h = absurd (cc)
store_of a (Select w c x y) h = absurd (cc)
store_of a (Load b p) h = absurd (cc)
store_of a (Store b p v) h = record { addr = p; value = v; is = ap (λ (c : ℕ). Store c p v) (eqb-true b a h) }

pub stored_to : (g : Graph) (a : ℕ) → is_stored_to a g.blocks ≡ true → IsStoredTo g a
stored_to g a h =
    let b = found (has_store_to a) g.blocks h in
    let s = found (is_store_to a) b.item.steps b.passes in
    let w = store_of a s.item s.passes in
    record { number = b.at; block = b.item; is_block = b.is_there; place = s.at; addr = w.addr; value = w.value; is_step = s.is_there ∙ ap Some w.is }

pub told : (g : Graph) (a : ℕ) → IsStoredTo g a → is_stored_to a g.blocks ≡ true
told g a x = any_at (has_store_to a) g.blocks x.number x.block x.is_block (any_at (is_store_to a) x.block.steps x.place (Store a x.addr x.value) x.is_step (eq-eqb a a refl))

-- ---- the share

told_of : (g : Graph) (n : ℕ) (rs : List Bool) (a : ℕ) (r : Bool) → TellsReadOnly g.blocks n rs → slice_get rs a ≡ Some r → not (is_stored_to a g.blocks) ≡ r
told_of g n rs a r t h =
    let within : a < length rs = slice_get_within rs a r h in
    same_Some (not (is_stored_to a g.blocks)) r (sym (t.each a (omega (arith, t.many))) ∙ h)

pub share : (g : Graph) (n : ℕ) (rs : List Bool) (found_ones : List Access) → n ≡ length g.arrays → TellsReadOnly g.blocks n rs → found_ones ≡ accesses_from rs 0 g.blocks
    → GroupsShare g (record { read_only = rs; of = found_ones })
share g n rs found_ones many t is = record {
  as_many = t.many ∙ many;
  read_only = λ a h x.
      let e : not (is_stored_to a g.blocks) ≡ true = told_of g n rs a true t h in
      let f : is_stored_to a g.blocks ≡ true = told g a x in
      let no : false ≡ true = rw f at e in
      cc;
  stored_to = λ a h. stored_to g a (by (is_stored_to a g.blocks) (told_of g n rs a false t h));
  accesses = is;
}
  where
    by : (b : Bool) → not b ≡ false → b ≡ true
    by true e = refl
    by false e = absurd (cc)
