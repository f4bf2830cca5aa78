-- The arrays that a graph stores to are those of its rewritten graphs.
use Rattle.std.proofs.Common.{◌≡◌, ℕ, zero, suc, List, [], ◌∷◌, ◌++◌, map, length, Some, refl, sym, ◌∙◌, ap, subst, inl, inr}
use Rattle.std.specs.Prelude.{◌↔◌, slice_get}
use Rattle.std.specs.List.{flat_map}
use Rattle.std.proofs.lemmas.Bool.{cases_lt}
use Rattle.std.proofs.lemmas.Option.{slice_get-get_or, get_or_from_slice_get}
use Rattle.std.proofs.lemmas.List.{get_or_past}
use Rattle.ir.specs.declared.instr.Instr.{Instr}
use Rattle.ir.specs.declared.instr.Instr.TheVariants.{Const, One, Two, Select, Load, Store}
use Rattle.ir.specs.declared.graph.Block.{Block}
use Rattle.ir.specs.Accesses.{IsStoredTo}
use Rattle.ir.specs.Renaming.{renamed}
use Rattle.ir.specs.Graphs.{Graph, no_block, block_at}
use Rattle.block_merge.specs.Renamed.{block_of}
use Rattle.block_merge.specs.Found.{stored_by, stored_in}
use Rattle.block_merge.proofs.Members.{In, in_left, in_right, in_either}

-- ---- one store

record IsStore (a : ℕ) (i : Instr) : Type 0 where
  addr : ℕ
  value : ℕ
  is : i ≡ Store a addr value

store_of : (a : ℕ) (i : Instr) → In (stored_by i) a → IsStore a i
store_of a (Const w n) h = absurd h
store_of a (One op x) h = absurd h
store_of a (Two op x y) h = absurd h
store_of a (Select w c x y) h = absurd h
store_of a (Load b p) h = absurd h
store_of a (Store b p v) (inl e) = record { addr = p; value = v; is = ap (λ x. Store x p v) e }
store_of a (Store b p v) (inr h) = absurd h

record HasStore (a : ℕ) (is : List Instr) : Type 0 where
  place : ℕ
  addr : ℕ
  value : ℕ
  is_step : slice_get is place ≡ Some (Store a addr value)

has_store : (a : ℕ) (is : List Instr) → In (flat_map stored_by is) a → HasStore a is
has_store a [] h = absurd h
has_store a (i ∷ is) h = elim (in_either (stored_by i) (flat_map stored_by is) a h) [
  | inl p ↦ let s = store_of a i p in record { place = 0; addr = s.addr; value = s.value; is_step = ap Some s.is }
  | inr q ↦ let s = has_store a is q in record { place = suc s.place; addr = s.addr; value = s.value; is_step = s.is_step }
]

pub stored_at : (a : ℕ) (is : List Instr) (place addr value : ℕ) → slice_get is place ≡ Some (Store a addr value) → In (flat_map stored_by is) a
stored_at a [] place addr value e = absurd (cc)
stored_at a (i ∷ is) zero addr value e = let s : i ≡ Store a addr value = cc in in_left (stored_by i) (flat_map stored_by is) a (subst (λ x. In (stored_by x) a) (sym s) (inl refl))
stored_at a (i ∷ is) (suc place) addr value e = in_right (stored_by i) (flat_map stored_by is) a (stored_at a is place addr value e)

-- ---- some block stores to the array

pub record Stores (bs : List Block) (a : ℕ) : Type 0 where
  pub number : ℕ
  pub stores : In (stored_in (block_of bs number)) a

pub stores_of : (g : Graph) (a : ℕ) → IsStoredTo g a → Stores g.blocks a
stores_of g a s =
    let e : block_at g s.number ≡ s.block = get_or_from_slice_get g.blocks s.number s.block no_block s.is_block in
    record { number = s.number; stores = subst (λ (b : Block). In (stored_in b) a) (sym e) (stored_at a s.block.steps s.place s.addr s.value s.is_step) }

pub is_stored : (g : Graph) (a : ℕ) → Stores g.blocks a → IsStoredTo g a
is_stored g a s = elim (cases_lt s.number (length g.blocks)) [
  | inl lt ↦
      let h = has_store a (block_at g s.number).steps s.stores in
      record {
        number = s.number;
        block = block_at g s.number;
        is_block = slice_get-get_or g.blocks s.number no_block lt;
        place = h.place;
        addr = h.addr;
        value = h.value;
        is_step = h.is_step;
      }
  | inr ge ↦ let none : In (stored_in no_block) a = subst (λ (b : Block). In (stored_in b) a) (get_or_past g.blocks s.number no_block ge) s.stores in absurd none
]

pub stored_alike : (g h : Graph) → ((a : ℕ) → Stores g.blocks a → Stores h.blocks a) → ((a : ℕ) → Stores h.blocks a → Stores g.blocks a) → (a : ℕ) → IsStoredTo h a ↔ IsStoredTo g a
stored_alike g h to back a = (λ s. is_stored g a (back a (stores_of h a s)), λ s. is_stored h a (to a (stores_of g a s)))

-- ---- renamed steps

renamed_store : (f : ℕ → ℕ) (i : Instr) → stored_by (renamed f i) ≡ stored_by i
renamed_store f (Const w n) = refl
renamed_store f (One op x) = refl
renamed_store f (Two op x y) = refl
renamed_store f (Select w c x y) = refl
renamed_store f (Load a p) = refl
renamed_store f (Store a p v) = refl

pub renamed_stores : (f : ℕ → ℕ) (is : List Instr) → flat_map stored_by (map (renamed f) is) ≡ flat_map stored_by is
renamed_stores f [] = refl
renamed_stores f (i ∷ is) = ap (λ l. l ++ flat_map stored_by (map (renamed f) is)) (renamed_store f i) ∙ ap (λ l. stored_by i ++ l) (renamed_stores f is)
