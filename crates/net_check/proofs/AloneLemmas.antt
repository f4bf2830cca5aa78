-- Rule C1 from tables: each channel is the first at its end, and each place has one.
use Rattle.std.proofs.Common.{◌≡◌, inl, inr, ℕ, suc, ◌+◌, ◌<◌, ◌≤◌, nat_lt, Bool, true, false, cond, List, [], ◌∷◌, length, get_or, refl, sym, ap, subst, ◌∙◌, arith, below_more, IsTrue, Option, Some, None, is_some, MatchOption, rules}
use Rattle.std.specs.List.{All}
use Rattle.std.specs.Bool.{⊤}
use Rattle.std.specs.Option.{IfSome}
use Rattle.std.proofs.lemmas.Option.{MatchOption-at_some}
use Rattle.std.proofs.lemmas.Bool.{cases_lt, ltb-false}
use Rattle.std.proofs.lemmas.List.Sums.{sum_by-cons}
use Rattle.net_types.specs.declared.net.Chan.{Chan}
use Rattle.net_types.specs.declared.net.Net.{Net}
use Rattle.net_types.specs.declared.net.Unit.{Unit as Kind}
use Rattle.net_types.specs.Nets.{is_at, nowhere, kind_of}
use Rattle.net_check.specs.declared.wires.Side.{Side}
use Rattle.net_check.specs.declared.wires.Side.TheVariants.{In, Out}
use Rattle.net_check.specs.declared.wires.Wires.{Wires}
use Rattle.net_check.specs.Places.{HasEnds}
use Rattle.net_check.specs.private.Steers.{IsTableOf}
use Rattle.net_check.specs.private.JoinTables.{IsJoinTable, AreJoinTables}
use Rattle.net_check.specs.private.Wires.{end_of, first_at, wire, bound}
use Rattle.net_check.specs.private.Joins.{ended, placed, AreJoined, AreAlone, AreMet, AreMetBelow}
use Rattle.net_check.proofs.FirstLemmas.{kind_read, within_same, past_same, read_same}
use Rattle.net_check.proofs.Tables.{first-cons}
use Rattle.net_check.proofs.PlaceCounts.{placed_within, placed_below}
use Rattle.net_check.proofs.JoinLemmas.{at_same, ended_placed, joined_side, joined_both}

pub when_true : (b : Bool) (P : Type 0) → (IsTrue b → P) → b ≡ true → P
when_true true P h e = h (search rules)
when_true false P h e = cc

pub when_none : {A : Type 0} (o : Option A) (b : Bool) (P : Type 0) (Q : A → Type 0) → MatchOption o P Q → b ≡ is_some o → b ≡ false → P
when_none None b P Q m e f = m
when_none (Some x) b P Q m e f = cc

-- ---- no two channels at one place

-- where no channel ends, none is found
pub none_first : (side : Side) (u p : ℕ) (cs : List Chan) → ended side cs u p ≡ 0 → first_at side u p cs ≡ length cs
none_first In u p [] e = refl
none_first Out u p [] e = refl
none_first side u p (c ∷ cs) e = by (is_at (end_of side c) u p) refl (none_first side u p cs)
  where
    s : ended side (c ∷ cs) u p ≡ cond (is_at (end_of side c) u p) 1 0 + ended side cs u p
    s = sum_by-cons (λ (x : Chan). cond (is_at (end_of side x) u p) 1 0) c cs

    by : (b : Bool) → is_at (end_of side c) u p ≡ b → (ended side cs u p ≡ 0 → first_at side u p cs ≡ length cs) → first_at side u p (c ∷ cs) ≡ suc (length cs)
    by true b rest = let a : ended side (c ∷ cs) u p ≡ 1 + ended side cs u p = s ∙ ap (λ x. cond x 1 0 + ended side cs u p) b in absurd (omega arith)
    by false b rest =
        let a : ended side (c ∷ cs) u p ≡ 0 + ended side cs u p = s ∙ ap (λ x. cond x 1 0 + ended side cs u p) b in
        let f : first_at side u p (c ∷ cs) ≡ suc (first_at side u p cs) = first-cons side u p c cs ∙ ap (λ x. cond x 0 (suc (first_at side u p cs))) b in
        let r = rest (omega arith) in
        omega arith

none_there : (side : Side) (u p : ℕ) (cs : List Chan) → ((c : ℕ) → c < length cs → is_at (end_of side (get_or cs c nowhere)) u p ≡ true → ⊥) → ended side cs u p ≡ 0
none_there side u p [] h = refl
none_there side u p (x ∷ cs) h = by (is_at (end_of side x) u p) refl (none_there side u p cs (λ c l t. h (suc c) (omega arith) t))
  where
    s : ended side (x ∷ cs) u p ≡ cond (is_at (end_of side x) u p) 1 0 + ended side cs u p
    s = sum_by-cons (λ (y : Chan). cond (is_at (end_of side y) u p) 1 0) x cs

    by : (b : Bool) → is_at (end_of side x) u p ≡ b → ended side cs u p ≡ 0 → ended side (x ∷ cs) u p ≡ 0
    by true b e = absurd (h 0 (omega arith) b)
    by false b e = let a : ended side (x ∷ cs) u p ≡ 0 + ended side cs u p = s ∙ ap (λ y. cond y 1 0 + ended side cs u p) b in omega arith

-- at most one does, where any two such channels are one
most_one : (side : Side) (u p : ℕ) (cs : List Chan) → ((c d : ℕ) → c < length cs → d < length cs → is_at (end_of side (get_or cs c nowhere)) u p ≡ true → is_at (end_of side (get_or cs d nowhere)) u p ≡ true → c ≡ d)
    → ended side cs u p ≤ 1
most_one side u p [] h = omega arith
most_one side u p (x ∷ cs) h = by (is_at (end_of side x) u p) refl (most_one side u p cs (λ c d l m s t. (let y : suc c ≡ suc d = h (suc c) (suc d) (omega arith) (omega arith) s t in omega arith)))
  where
    s : ended side (x ∷ cs) u p ≡ cond (is_at (end_of side x) u p) 1 0 + ended side cs u p
    s = sum_by-cons (λ (y : Chan). cond (is_at (end_of side y) u p) 1 0) x cs

    by : (b : Bool) → is_at (end_of side x) u p ≡ b → ended side cs u p ≤ 1 → ended side (x ∷ cs) u p ≤ 1
    by true b m =
        let n = none_there side u p cs (λ c l t. (let y : suc c ≡ 0 = h (suc c) 0 (omega arith) (omega arith) t b in omega arith)) in
        let a : ended side (x ∷ cs) u p ≡ 1 + ended side cs u p = s ∙ ap (λ y. cond y 1 0 + ended side cs u p) b in
        omega arith
    by false b m = let a : ended side (x ∷ cs) u p ≡ 0 + ended side cs u p = s ∙ ap (λ y. cond y 1 0 + ended side cs u p) b in omega arith

-- the channels with a number below n are the first at their ends
pub record AreFirst (side : Side) (cs : List Chan) (n : ℕ) : Type 0 where
  pub each : (c : ℕ) → c < n → first_at side (end_of side (get_or cs c nowhere)).unit (end_of side (get_or cs c nowhere)).place cs ≡ c

first_there : (side : Side) (cs : List Chan) (n c u p : ℕ) → AreFirst side cs n → c < n → is_at (end_of side (get_or cs c nowhere)) u p ≡ true → first_at side u p cs ≡ c
first_there side cs n c u p a l t =
    let s = at_same (end_of side (get_or cs c nowhere)) u p t in
    ap (λ v. first_at side v p cs) (sym s.0) ∙ ap (λ q. first_at side (end_of side (get_or cs c nowhere)).unit q cs) (sym s.1) ∙ a.each c l

pub all_first : (side : Side) (cs : List Chan) (n : ℕ) → length cs ≤ n → AreFirst side cs n → AreAlone side cs
all_first side cs n l a = record { each = λ u p. most_one side u p cs (λ c d k m s t. sym (first_there side cs n c u p a (omega arith) s) ∙ first_there side cs n d u p a (omega arith) t) }

-- ---- a channel at each place

pub met_more : (side : Side) (net : Net) (u n : ℕ) → AreMetBelow side net u n → (0 < placed side net u n → 0 < ended side net.chans u n) → AreMetBelow side net u (n + 1)
met_more side net u n a h = record { each = below_more (λ p. 0 < placed side net u p → 0 < ended side net.chans u p) n a.each h }

-- where the table tells a channel, one ends
pub met_told : (side : Side) (net : Net) (w : Wires) (u n found : ℕ) → IsTableOf side net w → AreMetBelow side net u n → found ≡ wire w.starts.items w.chans.items w.none u n → (found ≡ w.none → ⊥) → AreMetBelow side net u (n + 1)
met_told side net w u n found t a e h = met_more side net u n a (λ k. elim (cases_lt 0 (ended side net.chans u n)) [
  | inl l ↦ l
  | inr l ↦ absurd (h (e ∙ t.tells u n ∙ none_first side u n net.chans (omega arith) ∙ sym t.past))
])

pub met_hole : (side : Side) (net : Net) (u n : ℕ) (b : Bool) → AreMetBelow side net u n → b ≡ nat_lt 0 (placed side net u n) → b ≡ false → AreMetBelow side net u (n + 1)
met_hole side net u n b a e f = met_more side net u n a (λ h. (let z : placed side net u n ≤ 0 = ltb-false _ _ (sym e ∙ f) in absurd (omega arith)))

-- the units below n have a channel at each place
pub record AreMetUnits (side : Side) (net : Net) (n : ℕ) : Type 0 where
  pub each : (u : ℕ) → u < n → AreMetBelow side net u (bound side (kind_of net u))

pub met_unit : (side : Side) (net : Net) (us : List Kind) (u n : ℕ) (k : Kind) (b : Bool) → us ≡ net.units → u < length us → k ≡ get_or us u k → n ≡ bound side k → (IsTrue b → AreMetBelow side net u n) → b ≡ true
    → AreMetUnits side net u → AreMetUnits side net (u + 1)
met_unit side net us u n k b e l r d m t a = record { each = below_more _ _ a.each (subst (AreMetBelow side net u) (d ∙ ap (bound side) (kind_read net u k (within_same us net.units u e l) (read_same us net.units u k e r))) (when_true b _ m t)) }

pub met_units : (side : Side) (net : Net) (us : List Kind) (n : ℕ) → us ≡ net.units → length us ≤ n → AreMetUnits side net n → AreMet side net
met_units side net us n e l a = record {
  each = λ u p h. (
      let y = past_same us net.units n e l in
      let w = placed_within side net u p h in
      (a.each u (omega arith)).each p (placed_below side net u p h) h);
}

-- ---- the rule

pub joined_by : (side : Side) (net : Net) (cs : List Chan) → cs ≡ net.chans → All (HasEnds net) net.chans → AreAlone side cs → AreMet side net → AreJoined side net
joined_by side net cs e a alone met = joined_side side net (λ u p. ended_placed side net u p a) (subst (AreAlone side) e alone) met

pub join_tables : (net : Net) (i o : Option Wires) (a b : Wires) → i ≡ Some a → o ≡ Some b → IfSome i (IsJoinTable In net) → IfSome o (IsJoinTable Out net) → AreJoinTables net (a, b)
join_tables net i o a b e f x y =
    let j = MatchOption-at_some ⊤ (IsJoinTable In net) a e x in
    let k = MatchOption-at_some ⊤ (IsJoinTable Out net) b f y in
    record { ins = j.table; outs = k.table; kept = joined_both net j.joined k.joined }
