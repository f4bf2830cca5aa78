-- The search for the least enabled act of a unit, kind of acts after kind of acts.
use Rattle.std.proofs.Common.{◌≡◌, ℕ, zero, suc, ◌+◌, ◌<◌, ◌≤◌, ◌⊎◌, ◌==◌, Bool, true, false, cond, Option, Some, None, refl, sym, ap, subst, ◌∙◌, inl, inr, arith, MatchOption, eq-eqb, eqb-true, ltb-true, nat_lt}
use Rattle.std.proofs.lemmas.Bool.{cases_lt, ltb-false}
use Rattle.net_types.specs.declared.net.Net.{Net}
use Rattle.net_types.specs.declared.firing.Act.{Act}
use Rattle.net_types.specs.declared.firing.Act.TheVariants.{Go, From, Send, Alloc, Addr, Data, Exec, Reply, Retire, End}
use Rattle.net_types.specs.Nets.{firing}
use Rattle.net_types.specs.Order.{act_rank, act_number, ActLe}
use Rattle.net_core.specs.declared.find.Family.{Family}
use Rattle.net_core.specs.declared.find.Family.TheVariants as family
use Rattle.net_core.specs.Fire.{State, enabled}
use Rattle.net_core.specs.Finds.{IsQuiet, IsLeastAct}
use Rattle.net_core.specs.private.Searches.{act_of, family_rank, start_from, NoneIn, IsFirstIn}

-- the family of a rank
family_of : ℕ → Family
family_of zero = family.Go
family_of (suc zero) = family.From
family_of (suc (suc zero)) = family.Send
family_of (suc (suc (suc zero))) = family.Alloc
family_of (suc (suc (suc (suc zero)))) = family.Addr
family_of (suc (suc (suc (suc (suc zero))))) = family.Data
family_of (suc (suc (suc (suc (suc (suc zero)))))) = family.Exec
family_of (suc (suc (suc (suc (suc (suc (suc zero))))))) = family.Reply
family_of (suc (suc (suc (suc (suc (suc (suc (suc zero)))))))) = family.Retire
family_of (suc (suc (suc (suc (suc (suc (suc (suc (suc n))))))))) = family.End

family_back : (f : Family) → family_of (family_rank f) ≡ f
unfolding family_of
family_back family.Go = refl
family_back _ = refl

act_back : (b : Act) → b ≡ act_of (family_of (act_rank b)) (act_number b)
unfolding family_of
act_back Go = refl
act_back _ = refl

-- an act of a family's rank is that of its number
pub act_is : (f : Family) (b : Act) → act_rank b ≡ family_rank f → b ≡ act_of f (act_number b)
act_is f b e = act_back b ∙ ap (λ g. act_of g (act_number b)) (ap family_of e ∙ family_back f)

pub rank_is : (f : Family) (j : ℕ) → act_rank (act_of f j) ≡ family_rank f
rank_is family.Go j = refl
rank_is _ j = refl

number_most : (f : Family) (j : ℕ) → act_number (act_of f j) ≤ j
number_most family.Go j = omega arith
number_most _ j = omega arith

number_rises : (f : Family) (i j : ℕ) → i ≤ j → act_number (act_of f i) ≤ act_number (act_of f j)
number_rises family.Go i j l = omega arith
number_rises family.Retire i j l = omega arith
number_rises family.End i j l = omega arith
number_rises _ i j l = l

-- acts of a family from an act on

pub start_most : (f : Family) (from b : Act) (n : ℕ) → act_rank b ≡ family_rank f → ActLe from b → act_number b < n → start_from f from n ≤ act_number b
start_most f from b n e h l = by (nat_lt (act_rank from) (family_rank f)) (act_rank from == family_rank f) refl refl h
  where
    by : (x y : Bool) → nat_lt (act_rank from) (family_rank f) ≡ x → (act_rank from == family_rank f) ≡ y → ActLe from b → cond x 0 (cond y (act_number from) n) ≤ act_number b
    by true y p q h = omega arith
    by false y p q (inl m) = let k = ltb-false _ _ p in absurd (omega arith)
    by false true p q (inr m) = m.1
    by false false p q (inr m) = let z : true ≡ false = sym (eq-eqb _ _ (m.0 ∙ e)) ∙ q in cc

pub start_after : (f : Family) (from : Act) (n j : ℕ) → start_from f from n ≤ j → j < n → ActLe from (act_of f j)
start_after f from n j s l = by (nat_lt (act_rank from) (family_rank f)) (act_rank from == family_rank f) refl refl s
  where
    by : (x y : Bool) → nat_lt (act_rank from) (family_rank f) ≡ x → (act_rank from == family_rank f) ≡ y → cond x 0 (cond y (act_number from) n) ≤ j → ActLe from (act_of f j)
    by true y p q s = let k = ltb-true _ _ p in let r = rank_is f j in inl (omega arith)
    by false true p q s =
        let e : act_rank from ≡ family_rank f = eqb-true _ _ q in
        let k : act_number from ≡ act_number (act_of f (act_number from)) = ap act_number (act_is f from e) in
        let m = number_rises f (act_number from) j s in
        inr (e ∙ sym (rank_is f j), omega arith)
    by false false p q s = absurd (omega arith)

module _ (net : Net) (s : State) (u : ℕ) (from : Act) where
  -- no enabled act is of a lower rank, but those before
  abbrev pub Below : ℕ → Type 0
  Below r = (b : Act) → act_rank b < r → enabled net s (firing u b) → ActLe from b → ⊥

  -- the numbers of the enabled acts of a family, but those before
  pub record IsRange (f : Family) (start end : ℕ) : Type 0 where
    pub covers : (b : Act) → act_rank b ≡ family_rank f → enabled net s (firing u b) → ActLe from b → (start ≤ act_number b) × (act_number b < end)
    pub after : (j : ℕ) → start ≤ j → j < end → ActLe from (act_of f j)

  -- from the numbers of all enabled acts of a family
  pub range_from : (f : Family) (n : ℕ) → ((b : Act) → act_rank b ≡ family_rank f → enabled net s (firing u b) → act_number b < n) → IsRange f (start_from f from n) n
  range_from f n most = record {
    covers = λ b e h a. (let l = most b e h in (start_most f from b n e a l, l));
    after = λ j l m. start_after f from n j l m;
  }

  pub below_more : (f : Family) (start end : ℕ) → Below (family_rank f) → IsRange f start end → NoneIn net s u f start end → Below (suc (family_rank f))
  below_more f start end below range none b l h a = by (cases_lt (act_rank b) (family_rank f))
    where
      by : (act_rank b < family_rank f) ⊎ (family_rank f ≤ act_rank b) → ⊥
      by (inl m) = below b m h a
      by (inr m) =
          let e : act_rank b ≡ family_rank f = omega arith in
          let w = range.covers b e h a in
          none (act_number b) w.0 w.1 (subst (λ x. enabled net s (firing u x)) (act_is f b e) h)

  pub least_first : (f : Family) (start end : ℕ) (act : Act) → Below (family_rank f) → IsRange f start end → IsFirstIn net s u f start end act → IsLeastAct net s u from act
  least_first f start end act below range w = record {
    fires = w.fires;
    after = subst (ActLe from) (sym w.is) (range.after w.number w.from w.within);
    least = λ b h a. by b h a (cases_lt (act_rank b) (family_rank f)) (cases_lt (family_rank f) (act_rank b));
  }
    where
      rank : act_rank act ≡ family_rank f
      rank = ap act_rank w.is ∙ rank_is f w.number

      most : act_number act ≤ w.number
      most = let e = ap act_number w.is in let k = number_most f w.number in omega arith

      by : (b : Act) → enabled net s (firing u b) → ActLe from b → (act_rank b < family_rank f) ⊎ (family_rank f ≤ act_rank b) → (family_rank f < act_rank b) ⊎ (act_rank b ≤ family_rank f) → ActLe act b
      by b h a (inl l) y = absurd (below b l h a)
      by b h a (inr l) (inl m) = let r = rank in inl (omega arith)
      by b h a (inr l) (inr m) =
          let e : act_rank b ≡ family_rank f = omega arith in
          inr (rank ∙ sym e, at e (cases_lt (act_number b) w.number))
        where
          at : act_rank b ≡ family_rank f → (act_number b < w.number) ⊎ (w.number ≤ act_number b) → act_number act ≤ act_number b
          at e (inl x) = absurd (w.before (act_number b) (range.covers b e h a).0 x (subst (λ x. enabled net s (firing u x)) (act_is f b e) h))
          at e (inr x) = let k = most in omega arith

  -- where all enabled acts are of one family
  pub family_found : (f : Family) (start end : ℕ) (o : Option Act) → ((b : Act) → enabled net s (firing u b) → act_rank b ≡ family_rank f) → IsRange f start end
      → MatchOption o (NoneIn net s u f start end) (λ act. IsFirstIn net s u f start end act) → MatchOption o (IsQuiet net s u from) (λ act. IsLeastAct net s u from act)
  family_found f start end None all range h = λ b e a. (let r = all b e in let w = range.covers b r e a in h (act_number b) w.0 w.1 (subst (λ x. enabled net s (firing u x)) (act_is f b r) e))
  family_found f start end (Some act) all range h = least_first f start end act (λ b l e a. (let r = all b e in omega arith)) range h

-- the search in a family

pub none_next : (net : Net) (s : State) (u : ℕ) (f : Family) (start i : ℕ) (act : Act) (b : Bool) → NoneIn net s u f start i → act ≡ act_of f i
    → ((b ≡ true) → enabled net s (firing u act)) × (enabled net s (firing u act) → b ≡ true) → b ≡ false → NoneIn net s u f start (i + 1)
none_next net s u f start i act b none is told off j k l h = by (cases_lt j i)
  where
    by : (j < i) ⊎ (i ≤ j) → ⊥
    by (inl m) = none j k m h
    by (inr m) =
        let e : j ≡ i = omega arith in
        let k : b ≡ true = told.1 (subst (λ x. enabled net s (firing u x)) (ap (act_of f) e ∙ sym is) h) in
        let z : true ≡ false = sym k ∙ off in cc
