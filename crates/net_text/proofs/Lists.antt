-- Lists whose items are read one after another.
use Rattle.std.proofs.Common.{◌≡◌, ℕ, zero, suc, ◌+◌, ◌<◌, ◌==◌, true, List, [], ◌∷◌, ◌++◌, length, map, take, drop, subst, codes, get_or, Option, Some, None, All, refl, sym, ap, ◌∙◌, arith, eq-eqb}
use Rattle.std.proofs.lemmas.List.{take_more, map-append}
use Rattle.std.proofs.lemmas.List.Elements.{All-append}
use Rattle.std.specs.List.{slice_split, onto_first, join_with_byte}
use Rattle.std.proofs.lemmas.Bool.{ne_eqb}
use Rattle.std.proofs.lemmas.List.Splits.{slice_split-cons_yes, slice_split-cons_no, join_with_byte-slice_split, length-slice_split}
use Rattle.net_types.specs.declared.net.Port.{Port}
use Rattle.net_types.specs.declared.net.Net.{Net}
use Rattle.net_text.specs.declared.version.Version.{Version}
use Rattle.net_text.specs.Fits.{Always, WritesUnit, Writes}
use Rattle.net_text.specs.Pieces.{port_letter, ports_text}
use Rattle.net_text.specs.Reads.{Reads, lacks}
use Rattle.net_text.proofs.Cuts.{lacks_head, lacks_tail}

-- the text of a list of numbers has at each place the text of some item
pub map_at : {X : Type 0} (f : X → ℕ) (xs : List X) (ys : List ℕ) (i : ℕ) → map f xs ≡ ys → i < length ys → (x : X) × (f x ≡ get_or ys i 0)
map_at f [] ys i e l = absurd (omega (arith, ap length e))
map_at f (x ∷ xs) [] i e l = absurd (omega arith)
map_at f (x ∷ xs) (y ∷ ys) zero e l = (x, ap (λ l. get_or l 0 0) e)
map_at f (x ∷ xs) (y ∷ ys) (suc i) e l = map_at f xs ys i (ap (drop 1) e) (omega arith)

-- letters that are not the sign for none are the ports' text
pub reads_ports : (bytes : List ℕ) (o : Option (List Port)) → (bytes ≡ codes "-" → ⊥) → (bytes ≡ [] → ⊥) → Reads Always (map port_letter) bytes o → Reads Always ports_text bytes o
reads_ports bytes None dash empty r = none bytes dash r
  where
    none : (bytes : List ℕ) → (bytes ≡ codes "-" → ⊥) → ((v : List Port) → Always v → map port_letter v ≡ bytes → ⊥) → (v : List Port) → Always v → ports_text v ≡ bytes → ⊥
    none bytes dash r [] f e = dash (sym e)
    none bytes dash r (p ∷ ps) f e = r (p ∷ ps) f e
reads_ports bytes (Some []) dash empty r = absurd (empty (sym r.1))
reads_ports bytes (Some (p ∷ ps)) dash empty r = r

-- a part before a separator, and a last one, are cut as they are
split_first : (c : ℕ) (x rest : List ℕ) → lacks c x ≡ true → slice_split (λ b. b == c) (x ++ c ∷ rest) ≡ x ∷ slice_split (λ b. b == c) rest
split_first c [] rest l = slice_split-cons_yes (λ b. b == c) c rest (eq-eqb c c refl)
split_first c (z ∷ zs) rest l = slice_split-cons_no (λ b. b == c) z (zs ++ c ∷ rest) (ne_eqb z c (lacks_head c z zs l)) ∙ ap (onto_first z) (split_first c zs rest (lacks_tail c z zs l))

split_last : (c : ℕ) (x : List ℕ) → lacks c x ≡ true → slice_split (λ b. b == c) x ≡ x ∷ []
split_last c [] l = refl
split_last c (z ∷ zs) l = slice_split-cons_no (λ b. b == c) z zs (ne_eqb z c (lacks_head c z zs l)) ∙ ap (onto_first z) (split_last c zs (lacks_tail c z zs l))

pub All_head : {X : Type 0} (P : X → Type 0) (x : X) (xs : List X) → All P (x ∷ xs) → P x
All_head P x xs h = h 0 x (omega arith)

pub All_tail : {X : Type 0} (P : X → Type 0) (x : X) (xs : List X) → All P (x ∷ xs) → All P xs
All_tail P x xs h = λ k d l. h (suc k) d (omega arith)

-- a list's text is cut into the texts of its items
pub split_map : {X : Type 0} (Fits : X → Type 0) (c : ℕ) (f : X → List ℕ) → ((y : X) → Fits y → lacks c (f y) ≡ true) → (x : X) (xs : List X) → All Fits (x ∷ xs) → slice_split (λ b. b == c) (join_with_byte c (map f (x ∷ xs))) ≡ map f (x ∷ xs)
split_map Fits c f lack x [] h = split_last c (f x) (lack x (All_head Fits x [] h))
split_map Fits c f lack x (y ∷ ys) h =
    split_first c (f x) (join_with_byte c (map f (y ∷ ys))) (lack x (All_head Fits x (y ∷ ys) h))
    ∙ ap (λ l. f x ∷ l) (split_map Fits c f lack y ys (All_tail Fits x (y ∷ ys) h))

-- an item of a list that fits, by the text at its place
pub fits_at : {X R : Type 0} (view : R → List ℕ) (Fits : X → Type 0) (f : X → List ℕ) (xs : List X) (rs : List R) (i : ℕ) (d : R) → All Fits xs → map f xs ≡ map view rs → i < length rs → (x : X) × (Fits x × (f x ≡ view (get_or rs i d)))
fits_at view Fits f [] [] i d h e l = absurd (omega arith)
fits_at view Fits f [] (r ∷ rs) i d h e l = absurd (omega (arith, ap length e))
fits_at view Fits f (x ∷ xs) [] i d h e l = absurd (omega arith)
fits_at view Fits f (x ∷ xs) (r ∷ rs) zero d h e l = (x, (All_head Fits x xs h, ap (λ l. get_or l 0 (f x)) e))
fits_at view Fits f (x ∷ xs) (r ∷ rs) (suc i) d h e l = fits_at view Fits f xs rs i d (All_tail Fits x xs h) (ap (drop 1) e) (omega arith)

pub All_single : {X : Type 0} (P : X → Type 0) (x : X) → P x → All P (x ∷ [])
All_single P x p zero d l = p
All_single P x p (suc k) d l = absurd (omega arith)

-- one item more
pub one_more : {X R : Type 0} (view : R → List ℕ) (Fits : X → Type 0) (f : X → List ℕ) (xs ys : List X) (x : X) (rs : List R) (i : ℕ) (d : R)
    → ys ≡ xs ++ x ∷ [] → All Fits xs → map f xs ≡ map view (take i rs) → Fits x → f x ≡ view (get_or rs i d) → i < length rs
    → All Fits ys × (map f ys ≡ map view (take (i + 1) rs))
one_more {X} view Fits f xs ys x rs i d e h s p is l =
    let P : List X → Type 0 = λ zs. All Fits zs in (
      subst P (sym e) (All-append Fits xs (x ∷ []) h (All_single Fits x p)),
      ap (map f) e ∙ map-append f xs (x ∷ []) ∙ ap (λ l. l ++ f x ∷ []) s ∙ ap (λ y. map view (take i rs) ++ y ∷ []) is
          ∙ sym (map-append view (take i rs) (get_or rs i d ∷ [])) ∙ ap (map view) (sym (take_more rs i d l)),
    )

-- what is read of the parts of a text is read of the text, where no empty list has it
pub reads_joined : {X : Type 0} (Fits : X → Type 0) (c : ℕ) (f : X → List ℕ) (text : List X → List ℕ) (bytes : List ℕ) (parts : List (List ℕ)) (o : Option (List X))
    → ((y : X) → Fits y → lacks c (f y) ≡ true) → ((x : X) (xs : List X) → text (x ∷ xs) ≡ join_with_byte c (map f (x ∷ xs)))
    → (bytes ≡ text [] → ⊥) → parts ≡ slice_split (λ b. b == c) bytes → Reads (All Fits) (map f) parts o → Reads (All Fits) text bytes o
reads_joined {X} Fits c f text bytes parts None lack form empty cut r = none
  where
    none : (v : List X) → All Fits v → text v ≡ bytes → ⊥
    none [] h e = empty (sym e)
    none (x ∷ xs) h e = r (x ∷ xs) h (sym (split_map Fits c f lack x xs h) ∙ ap (slice_split (λ b. b == c)) (sym (form x xs) ∙ e) ∙ sym cut)
reads_joined Fits c f text bytes parts (Some []) lack form empty cut r = absurd (omega (arith, ap length (r.1 ∙ cut), length-slice_split (λ b. b == c) bytes))
reads_joined Fits c f text bytes parts (Some (x ∷ xs)) lack form empty cut r = (r.0, form x xs ∙ ap (join_with_byte c) (r.1 ∙ cut) ∙ join_with_byte-slice_split c bytes)

-- the units of a net that a version can write
pub written_units : (ver : Version) (net : Net) → Writes ver net → All (WritesUnit ver) net.units
written_units ver net w = λ k d l. (w.fits.units k d l, w.written k d l)
