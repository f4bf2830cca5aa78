-- The words of an entry, and what they say of each of its fields.
use Rattle.std.proofs.Common.{◌≡◌, ℕ, zero, suc, ◌<◌, ◌≤◌, ◌^◌, Bool, Option, Some, None, List, [], ◌∷◌, map, length, drop, get_or, codes, decimal, refl, sym, ap, subst, ◌∙◌, arith}
use Rattle.std.specs.Option.{IfSome}
use Rattle.std.proofs.lemmas.Fmt.{decimal_injective}
use Rattle.std.proofs.lemmas.List.{get_or_read}
use Rattle.el_base.specs.declared.ty.Array.{Array}
use Rattle.el_base.specs.Widths.{ty_width}
use Rattle.net_types.specs.declared.net.Net.{Net}
use Rattle.net_types.specs.declared.net.Port.{Port}
use Rattle.net_types.specs.declared.net.Port.TheVariants.{Load}
use Rattle.net_types.specs.declared.net.Unit.{Unit as Kind}
use Rattle.net_types.specs.declared.net.Unit.TheVariants.{Sink, Lsq}
use Rattle.net_types.specs.Nets.{kind_of}
use Rattle.net_types.specs.Tables.{array_width}
use Rattle.net_check.specs.Checks.{IsChecked}
use Rattle.net_check.specs.Headers.{IsNamed}
use Rattle.lsq_core.specs.declared.entry.Entry.{Entry}
use Rattle.lsq_core.specs.Acts.{is_store}
use Rattle.net_text.specs.Fits.{Always}
use Rattle.net_text.specs.Reads.{Reads}
use Rattle.net_text.proofs.ReadLemmas.{none_some}
use Rattle.snapshot.specs.Texts.{maybe, digit}
use Rattle.snapshot.specs.private.Words.{EntryIsOf, EntryOf, GoesTogether, IsBelow, PatternFits, entry_fields, entry_words}
use Rattle.snapshot.proofs.Slims.{power_slim}
use Rattle.snapshot.proofs.Spelt.{MaybeSmall, maybe_same, digit_same}

-- an answer of none
pub reads_nothing : {V T : Type 0} (Fits : V → Type 0) (f : V → T) (t : T) (o : Option V) → o ≡ None → ((v : V) → Fits v → f v ≡ t → ⊥) → Reads Fits f t o
reads_nothing Fits f t None e h = h
reads_nothing Fits f t (Some v) e h = absurd (none_some v (sym e))

-- an item of a list, made a word
pub at_map : {A : Type 0} (f : A → List ℕ) (xs : List A) (i : ℕ) (d : A) → get_or (map f xs) i (f d) ≡ f (get_or xs i d)
at_map f [] i d = refl
at_map f (x ∷ xs) zero d = refl
at_map f (x ∷ xs) (suc i) d = at_map f xs i d

-- the words of a list of seven
seven : {A : Type 0} (f : A → List ℕ) (xs : List A) (d : A) → length xs ≡ 7 → map f xs ≡ f (get_or xs 0 d) ∷ f (get_or xs 1 d) ∷ f (get_or xs 2 d) ∷ f (get_or xs 3 d) ∷ f (get_or xs 4 d) ∷ f (get_or xs 5 d) ∷ f (get_or xs 6 d) ∷ []
seven f [] d h = absurd (omega arith)
seven f (a ∷ []) d h = absurd (omega arith)
seven f (a ∷ b ∷ []) d h = absurd (omega arith)
seven f (a ∷ b ∷ c ∷ []) d h = absurd (omega arith)
seven f (a ∷ b ∷ c ∷ x ∷ []) d h = absurd (omega arith)
seven f (a ∷ b ∷ c ∷ x ∷ y ∷ []) d h = absurd (omega arith)
seven f (a ∷ b ∷ c ∷ x ∷ y ∷ z ∷ []) d h = absurd (omega arith)
seven f (a ∷ b ∷ c ∷ x ∷ y ∷ z ∷ w ∷ []) d h = refl
seven f (a ∷ b ∷ c ∷ x ∷ y ∷ z ∷ w ∷ v ∷ vs) d h = absurd (omega arith)

small_maybe : (width : ℕ) (o : Option ℕ) → width ≤ 64 → IfSome o (PatternFits width) → MaybeSmall o
small_maybe width None thin h = tt
small_maybe width (Some v) thin h = power_slim width v thin h

-- a field that no word tells
pub port_other : {A : Type 0} (f : A → List ℕ) (xs : List A) (d : A) (width : ℕ) (ports : List Port)
    → ((n : ℕ) → IsBelow (length ports) n → decimal n ≡ f (get_or xs 1 d) → ⊥) → (v : Entry) → EntryIsOf width ports v → entry_fields v ≡ map f xs → ⊥
port_other f xs d width ports other v k e = other v.port k.port (ap (λ l. get_or l 1 (f d)) e ∙ at_map f xs 1 d)

pub addr_other : {A : Type 0} (f : A → List ℕ) (xs : List A) (d : A) (width : ℕ) (ports : List Port)
    → ((o : Option ℕ) → IfSome o (PatternFits 64) → maybe o ≡ f (get_or xs 2 d) → ⊥) → (v : Entry) → EntryIsOf width ports v → entry_fields v ≡ map f xs → ⊥
addr_other f xs d width ports other v k e = other v.addr k.fits.addr (ap (λ l. get_or l 2 (f d)) e ∙ at_map f xs 2 d)

pub datum_other : {A : Type 0} (f : A → List ℕ) (xs : List A) (d : A) (width : ℕ) (ports : List Port)
    → ((o : Option ℕ) → IfSome o (PatternFits width) → maybe o ≡ f (get_or xs 3 d) → ⊥) → (v : Entry) → EntryIsOf width ports v → entry_fields v ≡ map f xs → ⊥
datum_other f xs d width ports other v k e = other v.datum k.fits.datum (ap (λ l. get_or l 3 (f d)) e ∙ at_map f xs 3 d)

pub done_other : {A : Type 0} (f : A → List ℕ) (xs : List A) (d : A) (width : ℕ) (ports : List Port)
    → ((b : Bool) → Always b → digit b ≡ f (get_or xs 4 d) → ⊥) → (v : Entry) → EntryIsOf width ports v → entry_fields v ≡ map f xs → ⊥
done_other f xs d width ports other v k e = other v.done tt (ap (λ l. get_or l 4 (f d)) e ∙ at_map f xs 4 d)

pub value_other : {A : Type 0} (f : A → List ℕ) (xs : List A) (d : A) (width : ℕ) (ports : List Port)
    → ((n : ℕ) → PatternFits width n → decimal n ≡ f (get_or xs 5 d) → ⊥) → (v : Entry) → EntryIsOf width ports v → entry_fields v ≡ map f xs → ⊥
value_other f xs d width ports other v k e = other v.value k.fits.value (ap (λ l. get_or l 5 (f d)) e ∙ at_map f xs 5 d)

pub replied_other : {A : Type 0} (f : A → List ℕ) (xs : List A) (d : A) (width : ℕ) (ports : List Port)
    → ((b : Bool) → Always b → digit b ≡ f (get_or xs 6 d) → ⊥) → (v : Entry) → EntryIsOf width ports v → entry_fields v ≡ map f xs → ⊥
replied_other f xs d width ports other v k e = other v.replied tt (ap (λ l. get_or l 6 (f d)) e ∙ at_map f xs 6 d)

-- what each word told of an entry
pub record Told {A : Type 0} (f : A → List ℕ) (xs : List A) (d : A) (width : ℕ) (ports : List Port) (x : Entry) : Type 0 where
  pub serial : (x.serial < 2 ^ 64) × (decimal x.serial ≡ f (get_or xs 0 d))
  pub port : IsBelow (length ports) x.port × (decimal x.port ≡ f (get_or xs 1 d))
  pub side : x.store ≡ is_store (get_or ports x.port Load)
  pub addr : IfSome x.addr (PatternFits 64) × (maybe x.addr ≡ f (get_or xs 2 d))
  pub datum : IfSome x.datum (PatternFits width) × (maybe x.datum ≡ f (get_or xs 3 d))
  pub done : digit x.done ≡ f (get_or xs 4 d)
  pub value : PatternFits width x.value × (decimal x.value ≡ f (get_or xs 5 d))
  pub replied : digit x.replied ≡ f (get_or xs 6 d)

module _ {A : Type 0} (f : A → List ℕ) (xs : List A) (d : A) (width : ℕ) (ports : List Port) (x : Entry) (t : Told f xs d width ports x) where
  pub own_entry : length xs ≡ 7 → GoesTogether x → EntryIsOf width ports x × (entry_fields x ≡ map f xs)
  own_entry len g = (
    record {
      fits = record { side = t.side; addr = t.addr.0; datum = t.datum.0; at_store = g.at_store; executed = g.executed; value = t.value.0; of_store = g.of_store; of_waiting = g.of_waiting; replied = g.replied };
      serial = t.serial.0;
      port = t.port.0;
    },
    same ∙ sym (seven f xs d len),
  )
    where
      same : entry_fields x ≡ f (get_or xs 0 d) ∷ f (get_or xs 1 d) ∷ f (get_or xs 2 d) ∷ f (get_or xs 3 d) ∷ f (get_or xs 4 d) ∷ f (get_or xs 5 d) ∷ f (get_or xs 6 d) ∷ []
      same = λ i. t.serial.1 i ∷ t.port.1 i ∷ t.addr.1 i ∷ t.datum.1 i ∷ t.done i ∷ t.value.1 i ∷ t.replied i ∷ []

  pub other_entry : width ≤ 64 → length ports < 2 ^ 32 → (GoesTogether x → ⊥) → (v : Entry) → EntryIsOf width ports v → entry_fields v ≡ map f xs → ⊥
  other_entry thin few other v k e = other (subst GoesTogether same (record { at_store = k.fits.at_store; executed = k.fits.executed; of_store = k.fits.of_store; of_waiting = k.fits.of_waiting; replied = k.fits.replied }))
    where
      at : (i : ℕ) → get_or (entry_fields v) i (f d) ≡ f (get_or xs i d)
      at i = ap (λ l. get_or l i (f d)) e ∙ at_map f xs i d

      serial : v.serial ≡ x.serial
      serial = decimal_injective v.serial x.serial k.serial t.serial.0 (at 0 ∙ sym t.serial.1)

      port : v.port ≡ x.port
      port = let a = k.port in let b = t.port.0 in decimal_injective v.port x.port (omega arith) (omega arith) (at 1 ∙ sym t.port.1)

      store : v.store ≡ x.store
      store = k.fits.side ∙ ap (λ q. is_store (get_or ports q Load)) port ∙ sym t.side

      addr : v.addr ≡ x.addr
      addr = maybe_same v.addr x.addr (small_maybe 64 v.addr (omega arith) k.fits.addr) (small_maybe 64 x.addr (omega arith) t.addr.0) (at 2 ∙ sym t.addr.1)

      datum : v.datum ≡ x.datum
      datum = maybe_same v.datum x.datum (small_maybe width v.datum thin k.fits.datum) (small_maybe width x.datum thin t.datum.0) (at 3 ∙ sym t.datum.1)

      done : v.done ≡ x.done
      done = digit_same v.done x.done (at 4 ∙ sym t.done)

      value : v.value ≡ x.value
      value = decimal_injective v.value x.value (power_slim width v.value thin k.fits.value) (power_slim width x.value thin t.value.0) (at 5 ∙ sym t.value.1)

      replied : v.replied ≡ x.replied
      replied = digit_same v.replied x.replied (at 6 ∙ sym t.replied)

      same : v ≡ x
      same = λ i. record { serial = serial i; port = port i; store = store i; addr = addr i; datum = datum i; done = done i; value = value i; replied = replied i }

-- ---- an entry of a unit

-- the kind that is read of a unit, and the width of an array
pub kind_read : (net : Net) (us : List Kind) (u : ℕ) (r : Kind) → us ≡ net.units → u < length net.units → r ≡ get_or us u r → r ≡ kind_of net u
kind_read net us u r e l is = get_or_read net.units u r l (subst (λ (ks : List Kind). r ≡ get_or ks u r) e is) (Sink 0)

width_at : (xs : List Array) (a : ℕ) (y : Array) → a < length xs → array_width xs a ≡ ty_width (get_or xs a y).ty
width_at [] a y l = absurd (omega arith)
width_at (x ∷ xs) zero y l = refl
width_at (x ∷ xs) (suc a) y l = width_at xs a y (omega arith)

pub entry_of : (net : Net) (u a d : ℕ) (ps qs : List Port) (gs : List (List ℕ)) (f : Bool) (xs : List Array) (y : Array) (w : ℕ) (rest ws : List (List ℕ)) (o : Option Entry)
    → IsChecked net → kind_of net u ≡ Lsq a d ps gs f → xs ≡ net.arrays → w ≡ ty_width (get_or xs a y).ty → qs ≡ ps → ws ≡ codes "entry" ∷ rest
    → Reads (EntryIsOf w qs) entry_fields rest o → Reads (EntryOf net (kind_of net u)) entry_words ws o
entry_of net u a d ps qs gs f xs y w rest ws o checked kind arrays is ports e r =
    subst (λ (k : Kind). Reads (EntryOf net k) entry_words ws o) (sym kind) (by o
    (subst (λ (z : ℕ). Reads (EntryIsOf z ps) entry_fields rest o) width (subst (λ (q : List Port). Reads (EntryIsOf w q) entry_fields rest o) ports r)))
  where
    low : a < length net.arrays
    low = subst (λ (k : Kind). IsNamed net k) kind (checked.named u)

    width : w ≡ array_width net.arrays a
    width = is ∙ ap (λ (l : List Array). ty_width (get_or l a y).ty) arrays ∙ sym (width_at net.arrays a y low)

    by : (o : Option Entry) → Reads (EntryIsOf (array_width net.arrays a) ps) entry_fields rest o → Reads (EntryOf net (Lsq a d ps gs f)) entry_words ws o
    by None r = λ v k same. r v k (ap (drop 1) (same ∙ e))
    by (Some v) r = (r.0, ap (λ l. codes "entry" ∷ l) r.1 ∙ sym e)
