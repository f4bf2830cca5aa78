-- Separators that do not stand in the texts of ports, of a group, of groups and of a mark.
use Rattle.std.proofs.Common.{◌≡◌, ◌≢◌, ℕ, ◌<◌, true, List, [], ◌∷◌, ◌++◌, map, decimal, refl, arith, lit<}
use Rattle.std.specs.List.{join_with_byte}
use Rattle.std.proofs.lemmas.Bool.{ne_eqb}
use Rattle.net_types.specs.declared.net.Port.{Port}
use Rattle.net_types.specs.declared.net.Port.TheVariants.{Load, Store}
use Rattle.el_base.specs.Limits.{IsNumbered}
use Rattle.net_text.specs.Fits.{GroupFits, GroupsFit}
use Rattle.net_text.specs.Pieces.{port_letter, ports_text, group_text, groups_text}
use Rattle.net_text.specs.Reads.{lacks}
use Rattle.net_text.proofs.Cuts.{lacks_head, lacks_tail, decimal_lacks, decimal_lacks_above}
use Rattle.net_text.proofs.Lists.{All_head, All_tail}

pub lacks-cons : (c z : ℕ) (zs : List ℕ) → z ≢ c → lacks c zs ≡ true → lacks c (z ∷ zs) ≡ true
lacks-cons c z zs other l = rw (ne_eqb z c other) l

pub lacks-append : (c : ℕ) (xs ys : List ℕ) → lacks c xs ≡ true → lacks c ys ≡ true → lacks c (xs ++ ys) ≡ true
lacks-append c [] ys l m = m
lacks-append c (x ∷ xs) ys l m = lacks-cons c x (xs ++ ys) (lacks_head c x xs l) (lacks-append c xs ys (lacks_tail c x xs l) m)

pub numbers_lack : (c : ℕ) → ((k : ℕ) → IsNumbered k → lacks c (decimal k) ≡ true) → 44 ≢ c → (n : ℕ) (ns : List ℕ) → GroupFits (n ∷ ns) → lacks c (join_with_byte 44 (map decimal (n ∷ ns))) ≡ true
numbers_lack c digits comma n [] h = digits n (All_head IsNumbered n [] h)
numbers_lack c digits comma n (m ∷ ms) h =
    lacks-append c (decimal n) (44 ∷ join_with_byte 44 (map decimal (m ∷ ms))) (digits n (All_head IsNumbered n (m ∷ ms) h))
    (lacks-cons c 44 _ comma (numbers_lack c digits comma m ms (All_tail IsNumbered n (m ∷ ms) h)))

ports_lack_letters : (ps : List Port) → lacks 32 (map port_letter ps) ≡ true
ports_lack_letters [] = refl
ports_lack_letters (Load ∷ ps) = ports_lack_letters ps
ports_lack_letters (Store ∷ ps) = ports_lack_letters ps

pub ports_lack : (ps : List Port) → lacks 32 (ports_text ps) ≡ true
ports_lack [] = refl
ports_lack (p ∷ ps) = ports_lack_letters (p ∷ ps)

pub group_lacks : (g : List ℕ) → GroupFits g → lacks 59 (group_text g) ≡ true
group_lacks [] h = refl
group_lacks (n ∷ ns) h = numbers_lack 59 (λ k fits. decimal_lacks_above 59 k (lit< tt) (omega (arith, fits))) (λ e. omega arith) n ns h

-- a byte below the comma's stands in no groups
low_word : (c b : ℕ) → c < 44 → 44 < b → b ≢ c
low_word c b low high e = omega (arith, e)

low_numbers : (c : ℕ) → c < 44 → (n : ℕ) (ns : List ℕ) → GroupFits (n ∷ ns) → lacks c (group_text (n ∷ ns)) ≡ true
low_numbers c low n ns h = numbers_lack c (λ k fits. decimal_lacks c k (omega (arith, low)) (omega (arith, fits))) (λ e. omega (arith, low, e)) n ns h

low_group : (c : ℕ) → c < 44 → (g : List ℕ) → GroupFits g → lacks c (group_text g) ≡ true
low_group c low [] h = lacks-cons c 45 [] (low_word c 45 low (lit< tt)) refl
low_group c low (n ∷ ns) h = low_numbers c low n ns h

low_groups : (c : ℕ) → c < 44 → (g : List ℕ) (gs : List (List ℕ)) → GroupsFit (g ∷ gs) → lacks c (groups_text (g ∷ gs)) ≡ true
low_groups c low g [] h = low_group c low g (All_head GroupFits g [] h)
low_groups c low g (x ∷ xs) h =
    lacks-append c (group_text g) (59 ∷ groups_text (x ∷ xs)) (low_group c low g (All_head GroupFits g (x ∷ xs) h))
    (lacks-cons c 59 (groups_text (x ∷ xs)) (low_word c 59 low (lit< tt)) (low_groups c low x xs (All_tail GroupFits g (x ∷ xs) h)))

pub groups_lack : (c : ℕ) → c < 44 → (gs : List (List ℕ)) → GroupsFit gs → lacks c (groups_text gs) ≡ true
groups_lack c low [] h =
    lacks-cons c 110 (111 ∷ 110 ∷ 101 ∷ []) (low_word c 110 low (lit< tt)) (lacks-cons c 111 (110 ∷ 101 ∷ []) (low_word c 111 low (lit< tt)) (lacks-cons c 110 (101 ∷ []) (low_word c 110 low (lit< tt)) (lacks-cons c 101 [] (low_word c 101 low (lit< tt)) refl)))
groups_lack c low (g ∷ gs) h = low_groups c low g gs h
