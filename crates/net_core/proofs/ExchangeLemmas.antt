-- States of one net that exchange what a unit keeps, or the tokens of a channel.
use Rattle.std.proofs.Common.{◌≡◌, ◌≢◌, ◌⊎◌, inl, inr, ℕ, ◌+◌, ◌<◌, ◌≤◌, ◌^◌, true, Option, Some, None, List, [], length, get_or, set, map, refl, ap, ◌∙◌, sym, subst, arith, length-set, get_or-set_same, get_or-set_other}
use Rattle.std.proofs.Math.ListN.{get_or-map}
use Rattle.std.proofs.lemmas.List.{map-set, length-map, ext_get_or, get_or_past}
use Rattle.std.proofs.lemmas.Bool.{cases_lt, cases_eq}
use Rattle.net_types.specs.declared.net.Net.{Net}
use Rattle.net_types.specs.Nets.{kind_of, owns}
use Rattle.net_core.specs.declared.cell.Cell.{Cell}
use Rattle.net_core.specs.declared.cell.Cell.TheVariants.{Plain}
use Rattle.net_core.specs.declared.state.State.{State as Stored}
use Rattle.net_core.specs.declared.opening.Home.TheVariants as home
use Rattle.net_core.specs.Fire.{State, Own, idle, at_array, written}
use Rattle.net_core.specs.Held.{Held}
use Rattle.net_core.specs.Plans.{own_of, keeps, IsShaped}
use Rattle.net_core.specs.States.{state_of, arrays_of, array_in, queue_array, cell_at, home_at, IsOf}
use Rattle.net_core.specs.Exchanges.{HasStraysBy, HasStraysOf, with_unit}
use Rattle.net_core.specs.private.Exchanges.{AreSummed}
use Rattle.net_core.proofs.StateLemmas.{elsewhere}

-- ---- what a unit keeps

next_at : (x : Stored) (v : ℕ) → (get_or (map own_of x.cells.items) v idle) ≡ own_of (cell_at x v)
next_at x v = get_or-map own_of x.cells.items v Plain

abbrev below : Own → Type 0
below o = o.queue.next < 2 ^ 63

pub serial_at : (net : Net) (s : Stored) (v : ℕ) → IsOf net s → (own_of (cell_at s v)).queue.next < 2 ^ 63
serial_at net s v of = subst below (next_at s v) (of.serials v)

home_is : (s t : Stored) → t.homes ≡ s.homes → (a : ℕ) → home_at t a ≡ home_at s a
home_is s t homes a = ap (λ hs. get_or hs.items a (home.Here [])) homes

-- one cell becomes another of its form and shape
module _ (net : Net) (s t : Stored) (u : ℕ) (c : Cell) (within : u < length net.units) (of : IsOf net s)
    (kept : keeps (kind_of net u) c ≡ true) (shaped : IsShaped (kind_of net u) c (queue_array c)) (serial : (own_of c).queue.next < 2 ^ 63)
    (tokens : t.tokens ≡ s.tokens) (homes : t.homes ≡ s.homes) (exit : t.exit ≡ s.exit) (cells : t.cells.items ≡ set s.cells.items u c) where
  pub here : cell_at t u ≡ c
  here = ap (λ xs. get_or xs u Plain) cells ∙ get_or-set_same s.cells.items u c Plain (omega (arith, within, of.cells))

  there : (v : ℕ) → v ≢ u → cell_at t v ≡ cell_at s v
  there v ne = ap (λ xs. get_or xs v Plain) cells ∙ get_or-set_other s.cells.items u v c Plain ne

  each : (P : ℕ → Cell → Type 0) (v : ℕ) → P v (cell_at s v) → P u c → P v (cell_at t v)
  each P v mine its = by (cases_eq v u)
    where
      by : (v ≡ u) ⊎ (v ≡ u → ⊥) → P v (cell_at t v)
      by (inl e) = subst (λ x. P x (cell_at t x)) (sym e) (subst (P u) (sym here) its)
      by (inr n) = subst (P v) (sym (there v n)) mine

  pub cell_set_of : IsOf net t
  cell_set_of = record {
    slots = ap (λ (h : Held). h.slots) tokens ∙ of.slots;
    long = ap (λ (h : Held). length h.tokens) tokens ∙ of.long;
    cells = ap length cells ∙ (length-set s.cells.items u c ∙ of.cells);
    kept = λ v. each (λ x d. keeps (kind_of net x) d ≡ true) v (of.kept v) kept;
    shaped = λ v. each (λ x d. IsShaped (kind_of net x) d (queue_array d)) v (of.shaped v) shaped;
    homes = λ a v e. of.homes a v (sym (home_is s t homes a) ∙ e);
    owned = λ v a e. (let w = of.owned v a e in (subst (λ hs. a < length hs.items) (sym homes) w.0, home_is s t homes a ∙ w.1));
    serials = λ v. subst below (sym (next_at t v)) (each (λ x d. below (own_of d)) v (serial_at net s v of) serial);
    exit = ap (kind_of net) exit ∙ of.exit;
    exits = λ x e. of.exits x e ∙ sym exit;
  }

module _ (net : Net) (s o t : Stored) (u : ℕ) (within : u < length net.units) (of : IsOf net s) (other : IsOf net o)
    (scalars : t.scalars ≡ s.scalars) (tokens : t.tokens ≡ s.tokens) (homes : t.homes ≡ s.homes) (strays : t.strays ≡ s.strays) (exit : t.exit ≡ s.exit)
    (cells : t.cells.items ≡ set s.cells.items u (cell_at o u)) where
  pub exchanged_of : IsOf net t
  exchanged_of = cell_set_of net s t u (cell_at o u) within of (other.kept u) (other.shaped u) (serial_at net o u other) tokens homes exit cells

  own_is : map own_of t.cells.items ≡ set (map own_of s.cells.items) u (get_or (map own_of o.cells.items) u idle)
  own_is = ap (map own_of) cells ∙ (map-set own_of s.cells.items u (cell_at o u) ∙ ap (set (map own_of s.cells.items) u) (sym (next_at o u)))

  here_is : cell_at t u ≡ cell_at o u
  here_is = here net s t u (cell_at o u) within of (other.kept u) (other.shaped u) (serial_at net o u other) tokens homes exit cells

  read : (x : Stored) (b : ℕ) → get_or (arrays_of x) b [] ≡ array_in x.cells.items (home_at x b)
  read x b = get_or-map (array_in x.cells.items) x.homes.items b (home.Here [])

  stays : (b : ℕ) → owns (kind_of net u) ≢ Some b → get_or (arrays_of t) b [] ≡ get_or (arrays_of s) b []
  stays b differ =
      let first : array_in t.cells.items (home_at t b) ≡ array_in t.cells.items (home_at s b) = ap (array_in t.cells.items) (home_is s t homes b) in
      let second : array_in t.cells.items (home_at s b) ≡ array_in (set s.cells.items u (cell_at o u)) (home_at s b) = ap (λ xs. array_in xs (home_at s b)) cells in
      let third : array_in (set s.cells.items u (cell_at o u)) (home_at s b) ≡ array_in s.cells.items (home_at s b) =
      elsewhere s.cells.items (home_at s b) u (cell_at o u) (λ v e z. differ (subst (λ x. owns (kind_of net x) ≡ Some b) z (of.homes b v e))) in
      read t b ∙ (first ∙ (second ∙ (third ∙ sym (read s b))))

  moves : (a : ℕ) → owns (kind_of net u) ≡ Some a → get_or (arrays_of t) a [] ≡ get_or (arrays_of o) a []
  moves a is =
      let first : array_in t.cells.items (home_at t a) ≡ queue_array (cell_at t u) = ap (array_in t.cells.items) (home_is s t homes a ∙ (of.owned u a is).1) in
      let second : queue_array (cell_at t u) ≡ queue_array (cell_at o u) = ap queue_array here_is in
      let third : array_in o.cells.items (home_at o a) ≡ queue_array (cell_at o u) = ap (array_in o.cells.items) (other.owned u a is).1 in
      read t a ∙ (first ∙ (second ∙ (sym third ∙ sym (read o a))))

  long : length (arrays_of t) ≡ length (arrays_of s)
  long = length-map t.homes.items (array_in t.cells.items) ∙ (ap (λ hs. length hs.items) homes ∙ sym (length-map s.homes.items (array_in s.cells.items)))

  by_array : (w : Option ℕ) → owns (kind_of net u) ≡ w → arrays_of t ≡ written w (at_array (arrays_of o) w) (arrays_of s)
  by_array None is = ext_get_or [] (arrays_of t) (arrays_of s) long (λ b l. stays b (λ e. (let z : None ≡ Some b = sym is ∙ e in cc)))
  by_array (Some a) is =
      ext_get_or [] (arrays_of t) (set (arrays_of s) a xs) (long ∙ sym (length-set (arrays_of s) a xs)) (λ b l. one b (cases_eq b a))
    where
      xs : List ℕ
      xs = get_or (arrays_of o) a []

      inside : a < length (arrays_of s)
      inside = let l = (of.owned u a is).0 in let k = length-map s.homes.items (array_in s.cells.items) in omega arith

      one : (b : ℕ) → (b ≡ a) ⊎ (b ≡ a → ⊥) → get_or (arrays_of t) b [] ≡ get_or (set (arrays_of s) a xs) b []
      one b (inl e) = rw e (moves a is ∙ sym (get_or-set_same (arrays_of s) a xs [] inside))
      one b (inr n) = stays b (λ e. (let z : Some a ≡ Some b = sym is ∙ e in let y : a ≡ b = cc in n (sym y))) ∙ sym (get_or-set_other (arrays_of s) a b xs [] n)

  pub exchanged_state : state_of t ≡ with_unit net u (state_of o) (state_of s)
  exchanged_state =
      let a = by_array (owns (kind_of net u)) refl in
      let k = ap (λ (h : Held). h.tokens) tokens in
      let y = ap (λ xs. xs.items) strays in
      let own = own_is in
      cc

-- ---- the tokens of a channel

pub tokens_of : (net : Net) (s t : Stored) → IsOf net s → t.cells ≡ s.cells → t.homes ≡ s.homes → t.exit ≡ s.exit → t.tokens.slots ≡ s.tokens.slots → length t.tokens.tokens ≡ length s.tokens.tokens → IsOf net t
tokens_of net s t of cells homes exit slots long = record {
  slots = slots ∙ of.slots;
  long = long ∙ of.long;
  cells = ap (λ xs. length xs.items) cells ∙ of.cells;
  kept = λ u. subst (λ xs. keeps (kind_of net u) (get_or xs.items u Plain) ≡ true) (sym cells) (of.kept u);
  shaped = λ u. subst (λ xs. IsShaped (kind_of net u) (get_or xs.items u Plain) (queue_array (get_or xs.items u Plain))) (sym cells) (of.shaped u);
  homes = λ a u e. of.homes a u (subst (λ hs. get_or hs.items a (home.Here []) ≡ home.Queue u) homes e);
  owned = λ u a e. subst (λ hs. (a < length hs.items) × (get_or hs.items a (home.Here []) ≡ home.Queue u)) (sym homes) (of.owned u a e);
  serials = λ u. subst (λ xs. (get_or (map own_of xs.items) u idle).queue.next < 2 ^ 63) (sym cells) (of.serials u);
  exit = ap (kind_of net) exit ∙ of.exit;
  exits = λ x e. of.exits x e ∙ sym exit;
}

-- ---- counts that are added

pub summed_strays : (a : State) (ns ys : List ℕ) → AreSummed a.strays ns (length ns) ys → HasStraysBy a ns (record a { strays = ys })
summed_strays a ns ys h = record { rest = refl; long = h.long; each = λ x l. one x l (cases_lt x (length ns)) }
  where
    one : (x : ℕ) → x < length a.strays → (x < length ns) ⊎ (length ns ≤ x) → get_or ys x 0 ≡ get_or a.strays x 0 + get_or ns x 0
    one x l (inl k) = h.done x l k
    one x l (inr k) = let z : get_or ns x 0 ≡ 0 = get_or_past ns x 0 k in omega (arith, h.left x k, z)

pub strays_of : (a b c : State) → HasStraysBy a b.strays c → HasStraysOf a b c
strays_of a b c h = record { rest = h.rest; long = h.long; each = h.each }

-- ---- a net's states and their lists

-- two units do not own one array
pub owner_alone : (net : Net) (s : Stored) (u v a : ℕ) → IsOf net s → owns (kind_of net u) ≡ Some a → owns (kind_of net v) ≡ Some a → u ≡ v
owner_alone net s u v a of p q = let e : home.Queue u ≡ home.Queue v = sym (of.owned u a p).1 ∙ (of.owned v a q).1 in cc

pub owned_inside : (net : Net) (s : Stored) (u a : ℕ) → IsOf net s → owns (kind_of net u) ≡ Some a → a < length (state_of s).arrays
owned_inside net s u a of p = let l = (of.owned u a p).0 in let k = length-map s.homes.items (array_in s.cells.items) in omega arith

pub own_length : (net : Net) (s : Stored) → IsOf net s → length (state_of s).own ≡ length net.units
own_length net s of = length-map s.cells.items own_of ∙ of.cells
