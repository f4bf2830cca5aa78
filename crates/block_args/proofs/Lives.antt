-- A table of the live variables serves its graph.
use Rattle.std.proofs.Common.{◌≡◌, ℕ, zero, suc, ◌<◌, ◌⊎◌, List, [], ◌∷◌, length, get_or, Some, refl, ◌∙◌, ap, subst, arith, inl, inr}
use Rattle.std.specs.Prelude.{Bool, true, false, ◌==◌, slice_get}
use Rattle.std.specs.List.{Contains}
use Rattle.std.proofs.lemmas.Bool.{eqb-true, eq-eqb}
use Rattle.std.proofs.lemmas.Option.{same_Some}
use Rattle.std.proofs.lemmas.List.Elements.{Contains-get_or}
use Rattle.ir.specs.declared.cfg.CfgBlock.{CfgBlock}
use Rattle.ir.specs.declared.cfg.Write.{Write}
use Rattle.ir.specs.Variables.{VarGraph, IsVarGraph}
use Rattle.block_args.specs.Live.{targets, IsWritten, Live}
use Rattle.block_args.specs.Tables.{count_from, held_at, listed_at, Serves, ListsLive}
use Rattle.block_args.specs.Laws.{LiveVariablesServe}
use Rattle.block_args.proofs.Held.{length_count, get_count}
use Rattle.block_args.proofs.Named.{fine_block}

-- a variable is written or not
written_more : (x : Write) (xs : List Write) (v : ℕ) → IsWritten xs v → IsWritten (x ∷ xs) v
written_more x xs v w = record { place = suc w.place; value = w.value; is_write = w.is_write }

is_written : (xs : List Write) (v : ℕ) → IsWritten xs v ⊎ (IsWritten xs v → ⊥)
is_written [] v = inr (λ w. let h = w.is_write in absurd (cc))
is_written (x ∷ xs) v = by (x.var == v) refl (is_written xs v)
  where
    later : (x.var == v) ≡ false → (IsWritten xs v → ⊥) → (k n : ℕ) → slice_get (x ∷ xs) k ≡ Some (record { var = v; value = n }) → ⊥
    later e never zero n h = let t : (x.var == v) ≡ true = eq-eqb x.var v (ap (λ (y : Write). y.var) (same_Some x (record { var = v; value = n }) h)) in absurd (cc)
    later e never (suc k) n h = never (record { place = k; value = n; is_write = h })

    by : (b : Bool) → (x.var == v) ≡ b → IsWritten xs v ⊎ (IsWritten xs v → ⊥) → IsWritten (x ∷ xs) v ⊎ (IsWritten (x ∷ xs) v → ⊥)
    by true e r = inl (record { place = zero; value = x.value; is_write = ap (λ n. Some (record { var = n; value = x.value })) (eqb-true x.var v e) })
    by false e (inl w) = inl (written_more x xs v w)
    by false e (inr never) = inr (λ w. later e never w.place w.value w.is_write)

-- all variables are among the numbers from 0 on
among : (n v : ℕ) → v < n → Contains (count_from 0 n) v
among n v h = (v, omega (arith, length_count 0 n), at (count_from 0 n) v v 0 (omega (arith, length_count 0 n)) ∙ get_count 0 n v h ∙ omega arith)
  where
    at : (xs : List ℕ) (i a b : ℕ) → i < length xs → get_or xs i a ≡ get_or xs i b
    at [] i a b lt = absurd (omega arith)
    at (x ∷ xs) zero a b lt = refl
    at (x ∷ xs) (suc i) a b lt = at xs i a b (omega arith)

module _ (g : VarGraph) (fine : IsVarGraph g) where
  read_below : (b : ℕ) (x : CfgBlock) → slice_get g.blocks b ≡ Some x → (v : ℕ) → Contains x.reads v → v < length g.vars
  read_below b x there v (k, lt, is) = subst (λ n. n < length g.vars) is ((fine_block g fine b x there).reads k v lt)

  pub live_below : (b v : ℕ) → Live g b v → v < length g.vars
  live_below b v (Live.read_here c w x there reads) = read_below b x there v reads
  live_below b v (Live.read_later c d w x there to never rest) = live_below d v rest

  module _ (table : List (List ℕ)) (lists : ListsLive g table) where
    held : (b v : ℕ) → v < length g.vars → Live g b v → Contains (held_at (length g.vars) table b) v
    held zero v lt live = among (length g.vars) v lt
    held (suc b) v lt live = lists.all (suc b) v live

    handed : (b c v : ℕ) (x : CfgBlock) → slice_get g.blocks b ≡ Some x → Contains (targets x.jump) c → Contains (listed_at table c) v
        → IsWritten x.writes v ⊎ Contains (held_at (length g.vars) table b) v
    handed b c v x there to listed =
        let live : Live g c v = lists.live c v listed in
        elim (is_written x.writes v) [
          | inl w ↦ inl w
          | inr never ↦ inr (held b v (live_below c v live) (Live.read_later b c v x there to never live))
        ]

    serves : Serves g table
    serves = record {
      reads = λ b x there k d lt.
          let here = Contains-get_or x.reads k d lt in
          held b (get_or x.reads k d) (read_below b x there (get_or x.reads k d) here) (Live.read_here b (get_or x.reads k d) x there here);
      handed = handed;
      ascending = lists.ascending;
      below = λ b k d lt. live_below b (get_or (listed_at table b) k d) (lists.live b (get_or (listed_at table b) k d) (Contains-get_or (listed_at table b) k d lt));
    }

pub live_variables_serve : LiveVariablesServe
live_variables_serve g table fine lists = serves g fine table lists
