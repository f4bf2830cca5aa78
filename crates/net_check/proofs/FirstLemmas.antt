-- The lowest unit or channel without a property.
use Rattle.std.proofs.Common.{◌≡◌, inl, inr, ℕ, ◌+◌, ◌<◌, ◌≤◌, ◌==◌, ◌&&◌, nat_lt, Bool, true, false, cond, Option, Some, None, is_none, List, length, get_or, set, replicate, subst, sym, ap, refl, ◌∙◌, arith, below_more, length-set, get_or-set_same, get_or-set_other, ltb-true, ltb-false, eq-eqb}
use Rattle.std.proofs.lemmas.Bool.{cases_eq, ne_eqb}
use Rattle.std.proofs.lemmas.List.{get_or-replicate}
use Rattle.std.proofs.Math.ListN.{length-replicate}
use Rattle.std.specs.List.{All}
use Rattle.std.proofs.lemmas.List.Elements.{All-from_get_or}
use Rattle.net_types.specs.declared.net.Net.{Net}
use Rattle.net_types.specs.declared.net.Unit.{Unit as Kind}
use Rattle.net_types.specs.declared.net.Unit.TheVariants.{Sink, Param as KindParam, Lsq}
use Rattle.net_types.specs.declared.net.Chan.{Chan}
use Rattle.net_types.specs.Nets.{kind_of, chan_at, nowhere}
use Rattle.net_check.specs.private.Firsts.{IsFirst}
use Rattle.net_check.specs.private.Roles.{is_of, number_of, noted, noted_if}
use Rattle.net_check.specs.declared.firsts.Role.{Role}
use Rattle.net_check.specs.declared.firsts.Role.TheVariants.{Param, Queue}
use Rattle.net_check.specs.Lowest.{IsLowest, UnitLacks, ChanLacks}
use Rattle.net_check.proofs.MarkLemmas.{default}

-- a unit that was read is the unit of its number
pub kind_read : (net : Net) (u : ℕ) (k : Kind) → u < length net.units → k ≡ get_or net.units u k → k ≡ kind_of net u
kind_read net u k l e = e ∙ default net.units u k (Sink 0) l

pub chan_read : (net : Net) (c : ℕ) (x : Chan) → c < length net.chans → x ≡ get_or net.chans c x → x ≡ chan_at net c
chan_read net c x l e = e ∙ default net.chans c x nowhere l

pub first_unit : (net : Net) (P : Kind → Type 0) (u : ℕ) (k : Kind) → u < length net.units → k ≡ get_or net.units u k
    → ((v : ℕ) → v < u → P (kind_of net v)) → (P k → ⊥) → IsLowest (UnitLacks net P) u
first_unit net P u k l e a h = record {
  here = record { within = l; lacks = λ p. h (subst P (sym (kind_read net u k l e)) p) };
  below = λ v b x. x.lacks (a v b);
}

pub first_chan : (net : Net) (P : Chan → Type 0) (c : ℕ) (x : Chan) → c < length net.chans → x ≡ get_or net.chans c x
    → ((v : ℕ) → v < c → P (chan_at net v)) → (P x → ⊥) → IsLowest (ChanLacks net P) c
first_chan net P c x l e a h = record {
  here = record { within = l; lacks = λ p. h (subst P (sym (chan_read net c x l e)) p) };
  below = λ v b y. y.lacks (a v b);
}

pub all_units : (net : Net) (P : Kind → Type 0) → ((v : ℕ) → v < length net.units → P (kind_of net v)) → All P net.units
all_units net P a = All-from_get_or P net.units (Sink 0) a

pub all_chans : (net : Net) (P : Chan → Type 0) → ((v : ℕ) → v < length net.chans → P (chan_at net v)) → All P net.chans
all_chans net P a = All-from_get_or P net.chans nowhere a

-- the firsts among the units below n
pub record Noted (role : Role) (units : List Kind) (n count : ℕ) (table : List (Option ℕ)) : Type 0 where
  pub size : length table ≡ count
  pub first : (p : ℕ) → p < count → IsFirst (is_of role p) units n (get_or table p None)

pub noted_none : (role : Role) (units : List Kind) (count : ℕ) (table : List (Option ℕ)) → table ≡ replicate count None → Noted role units 0 count table
noted_none role units count table e = record {
  size = ap length e ∙ length-replicate count None;
  first = λ p l. (let g : get_or table p None ≡ None = ap (λ t. get_or t p None) e ∙ get_or-replicate count p None None l in
      let P : Option ℕ → Type 0 = IsFirst (is_of role p) units 0 in subst P (sym g) (λ k h. absurd (omega arith)));
}

-- one unit more that fails the test
pub first_more_no : (q : Kind → Bool) (units : List Kind) (n : ℕ) (o : Option ℕ) → q (get_or units n (Sink 0)) ≡ false → IsFirst q units n o → IsFirst q units (n + 1) o
first_more_no q units n None f h = below_more _ _ h f
first_more_no q units n (Some m) f h = (omega (arith, h.0), h.1, h.2)

-- one unit more, where one has passed
pub first_more_old : (q : Kind → Bool) (units : List Kind) (n : ℕ) (o : Option ℕ) → is_none o ≡ false → IsFirst q units n o → IsFirst q units (n + 1) o
first_more_old q units n None f h = cc
first_more_old q units n (Some m) f h = (omega (arith, h.0), h.1, h.2)

-- one unit more that passes, where none has
pub first_more_new : (q : Kind → Bool) (units : List Kind) (n : ℕ) (o : Option ℕ) → is_none o ≡ true → q (get_or units n (Sink 0)) ≡ true → IsFirst q units n o → IsFirst q units (n + 1) (Some n)
first_more_new q units n None f t h = (omega arith, t, h)
first_more_new q units n (Some m) f t h = cc

some_same : (a b : ℕ) → Some a ≡ Some b → a ≡ b
some_same a b e = cc

is_of_number : (role : Role) (k : Kind) (p number : ℕ) → number_of role k ≡ Some number → is_of role p k ≡ (number == p)
is_of_number Param (KindParam j) p number e = ap (λ x. x == p) (some_same j number e)
is_of_number Param _ p number e = cc
is_of_number Queue (Lsq a d ps gs f) p number e = ap (λ x. x == p) (some_same a number e)
is_of_number Queue _ p number e = cc

is_of_none : (role : Role) (k : Kind) (p : ℕ) → number_of role k ≡ None → is_of role p k ≡ false
is_of_none Param (KindParam j) p e = cc
is_of_none Param _ p e = refl
is_of_none Queue (Lsq a d ps gs f) p e = cc
is_of_none Queue _ p e = refl

pub noted_other : (role : Role) (units : List Kind) (n count : ℕ) (table : List (Option ℕ)) → number_of role (get_or units n (Sink 0)) ≡ None → Noted role units n count table → Noted role units (n + 1) count table
noted_other role units n count table e t = record {
  size = t.size;
  first = λ p l. first_more_no (is_of role p) units n _ (is_of_none role _ p e) (t.first p l);
}

pub noted_more : (role : Role) (units : List Kind) (n count number : ℕ) (table : List (Option ℕ)) → number_of role (get_or units n (Sink 0)) ≡ Some number
    → Noted role units n count table → Noted role units (n + 1) count (noted table number n)
noted_more role units n count number table e t = by (nat_lt number (length table)) refl (is_none (get_or table number None)) refl
  where
    fails : (p : ℕ) → (number ≡ p → ⊥) → is_of role p (get_or units n (Sink 0)) ≡ false
    fails p h = is_of_number role _ p number e ∙ ne_eqb number p h

    by : (a : Bool) → nat_lt number (length table) ≡ a → (b : Bool) → is_none (get_or table number None) ≡ b
        → Noted role units (n + 1) count (cond (a && b) (set table number (Some n)) table)
    by false a b y = record {
      size = t.size;
      first = λ p l. first_more_no (is_of role p) units n _ (fails p (λ h. (let z : length table ≤ number = ltb-false _ _ a in let s = t.size in omega arith))) (t.first p l);
    }
    by true a false y = record {
      size = t.size;
      first = λ p l. elim (cases_eq number p) [
        | inl h ↦ (let P : ℕ → Type 0 = λ x. IsFirst (is_of role x) units (n + 1) (get_or table x None) in
            subst P h (first_more_old (is_of role number) units n _ y (t.first number (let z : number ≡ p = h in omega arith))))
        | inr h ↦ first_more_no (is_of role p) units n _ (fails p h) (t.first p l)
      ];
    }
    by true a true y = record {
      size = length-set table number (Some n) ∙ t.size;
      first = λ p l. elim (cases_eq number p) [
        | inl h ↦ (let w : number < length table = ltb-true _ _ a in
            let g : get_or (set table number (Some n)) number None ≡ Some n = get_or-set_same table number (Some n) None w in
            let P : ℕ → Type 0 = λ x. IsFirst (is_of role x) units (n + 1) (get_or (set table number (Some n)) x None) in
            let Q : Option ℕ → Type 0 = λ o. IsFirst (is_of role number) units (n + 1) o in
            let z : number ≡ p = h in
            subst P h (subst Q (sym g) (first_more_new (is_of role number) units n _ y (is_of_number role _ number number e ∙ eq-eqb number number refl) (t.first number (omega arith)))))
        | inr h ↦ (let g : get_or (set table number (Some n)) p None ≡ get_or table p None = get_or-set_other table number p (Some n) None (λ x. h (sym x)) in
            let Q : Option ℕ → Type 0 = λ o. IsFirst (is_of role p) units (n + 1) o in
            subst Q (sym g) (first_more_no (is_of role p) units n _ (fails p h) (t.first p l)))
      ];
    }

pub noted_step : (role : Role) (units : List Kind) (n count : ℕ) (k : Kind) (o : Option ℕ) (table after : List (Option ℕ)) → n < length units → k ≡ get_or units n k
    → o ≡ number_of role k → after ≡ noted_if table o n → Noted role units n count table → Noted role units (n + 1) count after
noted_step role units n count k o table after l e d a t =
    let x : o ≡ number_of role (get_or units n (Sink 0)) = d ∙ ap (number_of role) (e ∙ default units n k (Sink 0) l) in
    let P : List (Option ℕ) → Type 0 = λ y. Noted role units (n + 1) count y in
    subst P (sym a) (by o (sym x))
  where
    by : (y : Option ℕ) → number_of role (get_or units n (Sink 0)) ≡ y → Noted role units (n + 1) count (noted_if table y n)
    by None x = noted_other role units n count table x t
    by (Some m) x = noted_more role units n count m table x t

pub within_same : (us vs : List Kind) (u : ℕ) → us ≡ vs → u < length us → u < length vs
within_same us vs u e l = let P : List Kind → Type 0 = λ x. u < length x in subst P e l

pub past_same : (us vs : List Kind) (u : ℕ) → us ≡ vs → length us ≤ u → length vs ≤ u
past_same us vs u e l = let P : List Kind → Type 0 = λ x. length x ≤ u in subst P e l

pub read_same : (us vs : List Kind) (u : ℕ) (k : Kind) → us ≡ vs → k ≡ get_or us u k → k ≡ get_or vs u k
read_same us vs u k e r = let P : List Kind → Type 0 = λ x. k ≡ get_or x u k in subst P e r
