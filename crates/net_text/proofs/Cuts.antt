-- Texts that are cut at a separator, and words at their front.
use Rattle.std.proofs.Common.{◌≡◌, ◌≢◌, ℕ, ◌^◌, ◌<◌, ◌&&◌, not, Bool, true, false, List, [], ◌∷◌, ◌++◌, drop, get_or, refl, sym, ap, ◌∙◌, arith, eq-eqb, decimal}
use Rattle.std.specs.Str.Parse.{AllDigits}
use Rattle.std.proofs.lemmas.Bool.{false≢true, ne_eqb}
use Rattle.std.proofs.lemmas.Fmt.{decimal_is_IsNumeral}
use Rattle.std.proofs.lemmas.Str.Parse.{digit_from_value}
use Rattle.el_base.specs.Limits.{IsNumbered}
use Rattle.net_text.specs.Reads.{lacks, pair_text}

pub and_first : (a b : Bool) → (a && b) ≡ true → a ≡ true
and_first true b h = refl
and_first false b h = absurd (false≢true h)

pub and_second : (a b : Bool) → (a && b) ≡ true → b ≡ true
and_second true b h = h
and_second false b h = absurd (false≢true h)

pub lacks_head : (c z : ℕ) (zs : List ℕ) → lacks c (z ∷ zs) ≡ true → z ≢ c
lacks_head c z zs l e = false≢true (sym (ap (λ b. not b && lacks c zs) (eq-eqb z c e)) ∙ l)

pub lacks_tail : (c z : ℕ) (zs : List ℕ) → lacks c (z ∷ zs) ≡ true → lacks c zs ≡ true
lacks_tail c z zs l = and_second _ _ l

-- a text has one first separator
pub cut_unique : (c : ℕ) (x y a b : List ℕ) → lacks c x ≡ true → lacks c a ≡ true → x ++ c ∷ y ≡ a ++ c ∷ b → (x ≡ a) × (y ≡ b)
cut_unique c [] y [] b lx la e = (refl, ap (drop 1) e)
cut_unique c [] y (z ∷ zs) b lx la e = absurd (lacks_head c z zs la (sym (ap (λ l. get_or l 0 0) e)))
cut_unique c (z ∷ zs) y [] b lx la e = absurd (lacks_head c z zs lx (ap (λ l. get_or l 0 0) e))
cut_unique c (x ∷ xs) y (z ∷ zs) b lx la e =
    let r : (xs ≡ zs) × (y ≡ b) = cut_unique c xs y zs b (lacks_tail c x xs lx) (lacks_tail c z zs la) (ap (drop 1) e) in
    let heads : x ≡ z = ap (λ l. get_or l 0 0) e in
    (ap (λ l. x ∷ l) r.0 ∙ ap (λ n. n ∷ zs) heads, r.1)

-- a text with a separator in it does not lack it
pub cut_present : (c : ℕ) (x y : List ℕ) → lacks c (x ++ c ∷ y) ≢ true
cut_present c [] y l = lacks_head c c y l refl
cut_present c (x ∷ xs) y l = cut_present c xs y (lacks_tail c x (xs ++ c ∷ y) l)

digits_lack : (c : ℕ) (ds : List ℕ) → c < 48 → AllDigits 10 ds → lacks c ds ≡ true
digits_lack c [] low h = refl
digits_lack c (d ∷ ds) low h =
    let other : d ≢ c = λ e. omega (arith, (digit_from_value d h.0).0) in
    rw (ne_eqb d c other) (digits_lack c ds low h.1)

-- a decimal has no separator in it
pub decimal_lacks : (c n : ℕ) → c < 48 → n < 2 ^ 64 → lacks c (decimal n) ≡ true
decimal_lacks c n low small = digits_lack c (decimal n) low (decimal_is_IsNumeral n small).0.1

-- two numbers with a separator between them are cut there
pub pair_cut : (c : ℕ) (p : ℕ × ℕ) (x y : List ℕ) → c < 48 → IsNumbered p.0 → lacks c x ≡ true → pair_text c p ≡ x ++ c ∷ y → (decimal p.0 ≡ x) × (decimal p.1 ≡ y)
pair_cut c p x y low fits l e = cut_unique c (decimal p.0) (decimal p.1) x y (decimal_lacks c p.0 low (omega (arith, fits))) l e

pub pair_uncut : (c : ℕ) (p : ℕ × ℕ) (bs : List ℕ) → lacks c bs ≡ true → pair_text c p ≢ bs
pair_uncut c p bs l e = cut_present c (decimal p.0) (decimal p.1) (ap (lacks c) e ∙ l)

digits_lack_above : (c : ℕ) (ds : List ℕ) → 57 < c → AllDigits 10 ds → lacks c ds ≡ true
digits_lack_above c [] high h = refl
digits_lack_above c (d ∷ ds) high h =
    let other : d ≢ c = λ e. omega (arith, (digit_from_value d h.0).1) in
    rw (ne_eqb d c other) (digits_lack_above c ds high h.1)

pub decimal_lacks_above : (c n : ℕ) → 57 < c → n < 2 ^ 64 → lacks c (decimal n) ≡ true
decimal_lacks_above c n high small = digits_lack_above c (decimal n) high (decimal_is_IsNumeral n small).0.1
