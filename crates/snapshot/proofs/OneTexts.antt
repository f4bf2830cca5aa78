-- Two states whose texts have the same lines are one.
use Rattle.std.proofs.Common.{◌≡◌, ◌≢◌, ℕ, zero, suc, ◌+◌, ◌<◌, ◌≤◌, ◌^◌, Bool, true, false, Option, Some, None, is_some, List, [], ◌∷◌, ◌++◌, map, length, drop, get_or, codes, decimal, refl, sym, ap, subst, ◌∙◌, arith, lit<, append_assoc}
use Rattle.std.specs.List.{All}
use Rattle.std.proofs.lemmas.Bool.{false≢true}
use Rattle.std.proofs.lemmas.Fmt.{decimal_injective}
use Rattle.el_base.specs.declared.ty.Ty.{Ty}
use Rattle.net_types.specs.declared.net.Net.{Net}
use Rattle.net_types.specs.Inputs.{IsPatternOf}
use Rattle.net_types.specs.Nets.{kind_of, chan_at}
use Rattle.net_check.specs.Checks.{IsChecked}
use Rattle.net_check.specs.Ends.{is_lsq}
use Rattle.net_text.specs.Reads.{lacks}
use Rattle.lsq_core.specs.declared.entry.Entry.{Entry}
use Rattle.lsq_core.specs.declared.part.QueuePart.{QueuePart}
use Rattle.lsq_core.specs.Views.{entry_at}
use Rattle.net_core.specs.Parts.{no_part, noted_outs}
use Rattle.inputs_text.specs.Results.{written}
use Rattle.snapshot.specs.declared.saved.Saved.{Saved}
use Rattle.snapshot.specs.Fits.{ValueFits}
use Rattle.snapshot.specs.Refusals.{MaySave, texts}
use Rattle.snapshot.specs.Texts.{each, words, no_scalar, no_array, flag_lines, value_lines, list_lines, part_lines, entry_line, end_line, queue_lines, from_fired, from_value, from_chans, from_forks, from_queues, from_arrays, from_strays}
use Rattle.snapshot.specs.private.Words.{EntryOf, list_words}
use Rattle.snapshot.specs.private.Drafts.{ToStrays, IsOne}
use Rattle.snapshot.proofs.Agrees.{from_here, same_items}
use Rattle.snapshot.proofs.Keys.{Lacks, key, entry_key, fired_key, no_chan, no_entry, no_fired, no_fork}
use Rattle.snapshot.proofs.Slims.{array_thin, chan_thin, few_outs}
use Rattle.snapshot.proofs.Spelt.{LackAll, after_word, lack_map, lack_more, one_words, written_lacks, written_same, writtens_same}
use Rattle.snapshot.proofs.Stages1.{flag_empty, flag_is, flag_told, value_of, value_small, zip_at}
use Rattle.snapshot.proofs.Stages2.{all_mono, exit_is, list_empty, list_is, list_lack, list_same, list_told}
use Rattle.snapshot.proofs.Stages3.{entry_one, facts_at}
use Rattle.snapshot.proofs.Stages5.{same_part}
use Rattle.snapshot.proofs.Stages6.{all_same, array_at}

-- ---- a line an item

ones : (f g : ℕ → List ℕ) (i m n : ℕ) (r q : List (List ℕ)) → i + m ≡ n → each (λ j. f j ∷ []) i m ++ r ≡ each (λ j. g j ∷ []) i m ++ q
    → ((j : ℕ) → i ≤ j → j < n → f j ≡ g j) × (r ≡ q)
ones f g i zero n r q z e = (λ j low high. absurd (omega arith), e)
ones f g i (suc m) n r q z e =
    let later = ones f g (suc i) m n r q (omega arith) (ap (drop 1) e) in
    (from_here i n (ap (λ ls. get_or ls 0 []) e) later.0, later.1)

-- ---- lines of some items

flag_one : (j : ℕ) (b : Bool) (l : List ℕ) (t : List (List ℕ)) → flag_lines j b ≡ l ∷ t → t ≡ []
flag_one j false l t e = absurd (let z = ap length e in omega arith)
flag_one j true l t e = ap (drop 1) (sym e)

list_one : (word : List ℕ) (j : ℕ) (vs : List ℕ) (l : List ℕ) (t : List (List ℕ)) → list_lines word j vs ≡ l ∷ t → t ≡ []
list_one word j [] l t e = absurd (let z = ap length e in omega arith)
list_one word j (v ∷ vs) l t e = ap (drop 1) (sym e)

-- ---- the result

fits_small : (o : Option Ty) (b : Bool) (v : ℕ) → ValueFits o b (Some v) → v < 2 ^ 64
fits_small None b v f = absurd (let z = ap is_some f in false≢true (sym z))
fits_small (Some ty) false v f = absurd (let z = ap is_some f in false≢true (sym z))
fits_small (Some ty) true v f = value_small (Some ty) v f

values_same : (o : Option Ty) (b : Bool) (p q : Option ℕ) (x y : List (List ℕ)) → ValueFits o b p → ValueFits o b q → value_lines p ++ x ≡ value_lines q ++ y → (p ≡ q) × (x ≡ y)
values_same o b None None x y f g e = (refl, e)
values_same o b (Some v) (Some w) x y f g e =
    (ap Some (decimal_injective v w (fits_small o b v f) (fits_small o b w g) (ap (λ ls. drop 6 (get_or ls 0 [])) e)), ap (drop 1) e)
values_same o b None (Some w) x y f g e = absurd (let z = ap is_some (value_of o b None (Some w) f g refl) in false≢true (sym z))
values_same o b (Some v) None x y f g e = absurd (let z = ap is_some (value_of o b None (Some v) g f refl) in false≢true (sym z))

-- ---- a state

module _ (net : Net) (checked : IsChecked net) (s t : Saved) (m : MaySave net s) (k : MaySave net t) (e : texts net s ≡ texts net t) where
  abbrev units : ℕ
  units = length net.units

  unit_small : (u : ℕ) → u < units → u < 2 ^ 64
  unit_small u l = let n = checked.numbered.units in omega arith

  made : s.made ≡ t.made
  made = let a = m.made in let b = k.made in decimal_injective s.made t.made (omega arith) (omega arith) (ap (λ ls. drop 5 (get_or ls 1 [])) e)

  scalars : ((j : ℕ) → 0 ≤ j → j < length net.scalars → words (codes "scalar" ∷ (get_or net.scalars j no_scalar).name ∷ codes "=" ∷ written (get_or net.scalars j no_scalar).ty (get_or s.parts.given.scalars j 0) ∷ []) ≡ words (codes "scalar" ∷ (get_or net.scalars j no_scalar).name ∷ codes "=" ∷ written (get_or net.scalars j no_scalar).ty (get_or t.parts.given.scalars j 0) ∷ []))
      × (from_fired net s.parts ≡ from_fired net t.parts)
  scalars = ones _ _ 0 (length net.scalars) (length net.scalars) _ _ (omega arith) (ap (drop 2) e)

  scalar_at : (j : ℕ) → j < length net.scalars → get_or s.parts.given.scalars j 0 ≡ get_or t.parts.given.scalars j 0
  scalar_at j l =
      let ty = (get_or net.scalars j no_scalar).ty in
      let name = (get_or net.scalars j no_scalar).name in
      let v = get_or s.parts.given.scalars j 0 in
      let w = get_or t.parts.given.scalars j 0 in
      written_same ty v w (zip_at net.scalars s.parts.given.scalars j m.fits.stands.fit.scalars l) (zip_at net.scalars t.parts.given.scalars j k.fits.stands.fit.scalars l)
      (after_word (codes "=") (written ty v) (written ty w) [] []
      (after_word name (codes "=") (codes "=") (written ty v ∷ []) (written ty w ∷ [])
      (after_word (codes "scalar") name name (codes "=" ∷ written ty v ∷ []) (codes "=" ∷ written ty w ∷ []) (scalars.0 j (omega arith) l))))

  -- ---- units that have fired

  flag_same : (i j : ℕ) (a b : Bool) (l : List ℕ) (x y : List (List ℕ)) → i < units → j < units → flag_lines i a ≡ l ∷ x → flag_lines j b ≡ l ∷ y → (i ≡ j) × (a ≡ b)
  flag_same i j a b l x y f g p q =
      let c = flag_is i a l x p in
      let d = flag_is j b l y q in
      (decimal_injective i j (unit_small i f) (unit_small j g) (ap (drop 6) (c.1 ∙ sym d.1)), c.0 ∙ sym d.0)

  flag_key : (j : ℕ) (b : Bool) (l : List ℕ) (x : List (List ℕ)) → flag_lines j b ≡ l ∷ x → key l ≡ fired_key
  flag_key j b l x p = ap key (sym (flag_is j b l x p).1)

  fired : ((j : ℕ) → 0 ≤ j → j < units → get_or s.parts.fired j false ≡ get_or t.parts.fired j false) × (from_value net s.parts ≡ from_value net t.parts)
  fired =
      same_items false flag_lines flag_empty flag_told s.parts.fired t.parts.fired 0 units units (from_value net s.parts) (from_value net t.parts) (omega arith) (record {
        one = flag_one;
        same = λ i j l x y f g p q. flag_same i j (get_or s.parts.fired i false) (get_or t.parts.fired j false) l x y f g p q;
        no_left = λ i l x more p q. no_fired net t.parts l more q (flag_key i (get_or s.parts.fired i false) l x p);
        no_right = λ j l x more p q. no_fired net s.parts l more q (flag_key j (get_or t.parts.fired j false) l x p);
      }) scalars.1

  -- ---- the result

  value : (s.parts.value ≡ t.parts.value) × (from_chans net s.parts ≡ from_chans net t.parts)
  value =
      let exit = checked.one_exit.unit in
      let here = exit_is (kind_of net exit) checked.one_exit.here in
      let own = subst (λ b. ValueFits net.result b s.parts.value) (fired.0 exit (omega arith) checked.one_exit.within) (m.fits.value exit here) in
      values_same net.result (get_or t.parts.fired exit false) s.parts.value t.parts.value (from_chans net s.parts) (from_chans net t.parts) own (k.fits.value exit here) fired.1

  -- ---- tokens, and bits of forks

  abbrev Small : List ℕ → Type 0
  Small vs = All (λ v. v < 2 ^ 64) vs

  lists_same : (word : List ℕ) → lacks 32 word ≡ true → (i j : ℕ) (a b : List ℕ) (l : List ℕ) (x y : List (List ℕ)) → i < 2 ^ 64 → j < 2 ^ 64 → Small a → Small b
      → list_lines word i a ≡ l ∷ x → list_lines word j b ≡ l ∷ y → (i ≡ j) × (a ≡ b)
  lists_same word one i j a b l x y f g c d p q =
      let u = list_is word i a l x p in
      let v = list_is word j b l y q in
      list_same word i j a b f g c d (one_words word word (decimal i ∷ map decimal a) (decimal j ∷ map decimal b) (list_lack word i a one f c) (list_lack word j b one g d) (u.1 ∙ sym v.1))

  list_key : (word : List ℕ) (i : ℕ) (a : List ℕ) (l : List ℕ) (x : List (List ℕ)) → list_lines word i a ≡ l ∷ x → key (words (list_words word (i, a))) ≡ key l
  list_key word i a l x p = ap key (list_is word i a l x p).1

  chan_small : (c : ℕ) → c < length net.chans → c < 2 ^ 64
  chan_small c l = let n = checked.numbered.chans in omega arith

  thin : (z : Saved) → MaySave net z → (c : ℕ) → c < length net.chans → Small (get_or z.parts.tokens c [])
  thin z n c l = all_mono (λ v. v < 2 ^ (chan_at net c).width) (λ v. v < 2 ^ 64) (λ v f. chan_thin net checked c v l f) (get_or z.parts.tokens c []) (n.fits.tokens c)

  tokens : ((c : ℕ) → 0 ≤ c → c < length net.chans → get_or s.parts.tokens c [] ≡ get_or t.parts.tokens c []) × (from_forks net s.parts ≡ from_forks net t.parts)
  tokens =
      same_items [] (list_lines (codes "chan")) (list_empty (codes "chan")) (list_told (codes "chan")) s.parts.tokens t.parts.tokens 0 (length net.chans) (length net.chans) (from_forks net s.parts) (from_forks net t.parts) (omega arith) (record {
        one = list_one (codes "chan");
        same = λ i j l x y f g p q. lists_same (codes "chan") refl i j (get_or s.parts.tokens i []) (get_or t.parts.tokens j []) l x y (chan_small i f) (chan_small j g) (thin s m i f) (thin t k j g) p q;
        no_left = λ i l x more p q. no_chan net t.parts l more q (sym (list_key (codes "chan") i (get_or s.parts.tokens i []) l x p));
        no_right = λ j l x more p q. no_chan net s.parts l more q (sym (list_key (codes "chan") j (get_or t.parts.tokens j []) l x p));
      }) value.1

  few : (z : Saved) → MaySave net z → (u : ℕ) → Small (get_or z.parts.sent u [])
  few z n u = all_mono (λ j. j < noted_outs (kind_of net u)) (λ v. v < 2 ^ 64) (λ v f. (let o = few_outs net checked u in omega arith)) (get_or z.parts.sent u []) (n.fits.by_unit.within u)

  sent : ((u : ℕ) → 0 ≤ u → u < units → get_or s.parts.sent u [] ≡ get_or t.parts.sent u []) × (from_queues net s.parts ≡ from_queues net t.parts)
  sent =
      same_items [] (list_lines (codes "fork")) (list_empty (codes "fork")) (list_told (codes "fork")) s.parts.sent t.parts.sent 0 units units (from_queues net s.parts) (from_queues net t.parts) (omega arith) (record {
        one = list_one (codes "fork");
        same = λ i j l x y f g p q. lists_same (codes "fork") refl i j (get_or s.parts.sent i []) (get_or t.parts.sent j []) l x y (unit_small i f) (unit_small j g) (few s m i) (few t k j) p q;
        no_left = λ i l x more p q. no_fork net t.parts l more q (sym (list_key (codes "fork") i (get_or s.parts.sent i []) l x p));
        no_right = λ j l x more p q. no_fork net s.parts l more q (sym (list_key (codes "fork") j (get_or t.parts.sent j []) l x p));
      }) tokens.1

  -- ---- queues

  entries_same : (u : ℕ) (xs ys : List Entry) (r q : List (List ℕ)) → ((i : ℕ) → i < length xs → EntryOf net (kind_of net u) (entry_at xs i)) → ((i : ℕ) → i < length ys → EntryOf net (kind_of net u) (entry_at ys i))
      → Lacks entry_key r → Lacks entry_key q → map entry_line xs ++ r ≡ map entry_line ys ++ q → (xs ≡ ys) × (r ≡ q)
  entries_same u [] [] r q f g lr lq c = (refl, c)
  entries_same u [] (y ∷ ys) r q f g lr lq c = absurd (lr (entry_line y) (map entry_line ys ++ q) c refl)
  entries_same u (x ∷ xs) [] r q f g lr lq c = absurd (lq (entry_line x) (map entry_line xs ++ r) (sym c) refl)
  entries_same u (x ∷ xs) (y ∷ ys) r q f g lr lq c =
      let here : x ≡ y = entry_one net checked (array_thin net) u x y (f 0 (omega arith)) (g 0 (omega arith)) (ap (λ ls. get_or ls 0 []) c) in
      let later = entries_same u xs ys r q (λ i l. f (suc i) (omega arith)) (λ i l. g (suc i) (omega arith)) lr lq (ap (drop 1) c) in
      (λ i. here i ∷ later.0 i, later.1)

  abbrev own : ℕ → List (List ℕ)
  own = queue_lines (kind_of net) s.parts.queues

  abbrev other : ℕ → List (List ℕ)
  other = queue_lines (kind_of net) t.parts.queues

  abbrev part : Saved → ℕ → QueuePart
  part z u = get_or z.parts.queues u no_part

  part_same : (u n : ℕ) → u < units → is_lsq (kind_of net u) ≡ true
      → (part_lines true u (part s u) ++ each own (suc u) n) ++ from_arrays net s.parts ≡ (part_lines true u (part t u) ++ each other (suc u) n) ++ from_arrays net t.parts
      → (part s u ≡ part t u) × (each own (suc u) n ++ from_arrays net s.parts ≡ each other (suc u) n ++ from_arrays net t.parts)
  part_same u n l is c =
      let f = facts_at net s u m l is in
      let g = facts_at net t u k l is in
      let a = f.next in
      let b = g.next in
      let next = decimal_injective (part s u).next (part t u).next (omega arith) (omega arith)
      (after_word (decimal u) (decimal (part s u).next) (decimal (part t u).next) [] []
      (after_word (codes "queue") (decimal u) (decimal u) (decimal (part s u).next ∷ []) (decimal (part t u).next ∷ []) (ap (λ ls. get_or ls 0 []) c))) in
      let es = map entry_line (part s u).entries in
      let ks = map entry_line (part t u).entries in
      let rest : es ++ (each own (suc u) n ++ from_arrays net s.parts) ≡ ks ++ (each other (suc u) n ++ from_arrays net t.parts) =
      sym (append_assoc es (each own (suc u) n) (from_arrays net s.parts)) ∙ ap (drop 1) c ∙ append_assoc ks (each other (suc u) n) (from_arrays net t.parts) in
      let both = entries_same u (part s u).entries (part t u).entries (each own (suc u) n ++ from_arrays net s.parts) (each other (suc u) n ++ from_arrays net t.parts) f.each_one g.each_one
      (no_entry net s.parts (suc u) n) (no_entry net t.parts (suc u) n) rest in
      (same_part (part s u) (part t u) next both.0, both.1)

  abbrev Parted : ℕ → Type 0
  Parted u = ((j : ℕ) → u ≤ j → j < units → part s j ≡ part t j) × (from_arrays net s.parts ≡ from_arrays net t.parts)

  abbrev Rest : ℕ → ℕ → Type 0
  Rest u n = each own (suc u) n ++ from_arrays net s.parts ≡ each other (suc u) n ++ from_arrays net t.parts

  parts_same : (u n : ℕ) → u + n ≡ units → each own u n ++ from_arrays net s.parts ≡ each other u n ++ from_arrays net t.parts → Parted u
  parts_same u zero z c = (λ j low high. absurd (omega arith), c)
  parts_same u (suc n) z c = by (parts_same (suc u) n (omega arith)) (is_lsq (kind_of net u)) refl c
    where
      later : (Rest u n → Parted (suc u)) → part s u ≡ part t u → Rest u n → Parted u
      later next here f = let rest = next f in (from_here u units here rest.0, rest.1)

      by : (Rest u n → Parted (suc u)) → (b : Bool) → is_lsq (kind_of net u) ≡ b
          → (part_lines b u (part s u) ++ each own (suc u) n) ++ from_arrays net s.parts ≡ (part_lines b u (part t u) ++ each other (suc u) n) ++ from_arrays net t.parts → Parted u
      by next false is f = later next (m.fits.by_unit.queues u is ∙ sym (k.fits.by_unit.queues u is)) f
      by next true is f = let both = part_same u n (omega arith) is f in later next both.0 both.1

  queues : Parted 0
  queues = parts_same 0 units (omega arith) sent.1

  -- ---- arrays

  arrays : ((a : ℕ) → 0 ≤ a → a < length net.arrays → words (codes "array" ∷ (get_or net.arrays a no_array).name ∷ codes "=" ∷ map (written (get_or net.arrays a no_array).ty) (get_or s.parts.given.arrays a [])) ≡ words (codes "array" ∷ (get_or net.arrays a no_array).name ∷ codes "=" ∷ map (written (get_or net.arrays a no_array).ty) (get_or t.parts.given.arrays a [])))
      × (from_strays net s.parts ≡ from_strays net t.parts)
  arrays = ones _ _ 0 (length net.arrays) (length net.arrays) _ _ (omega arith) queues.1

  elements_lack : (ty : Ty) (vs : List ℕ) → All (IsPatternOf ty) vs → LackAll 32 (codes "=" ∷ map (written ty) vs)
  elements_lack ty vs h = lack_more 32 (codes "=") _ refl (lack_map 32 (IsPatternOf ty) (written ty) (λ v f. written_lacks 32 ty v (lit< tt) f) vs h)

  array_same : (a : ℕ) → a < length net.arrays → get_or s.parts.given.arrays a [] ≡ get_or t.parts.given.arrays a []
  array_same a l =
      let ty = (get_or net.arrays a no_array).ty in
      let name = (get_or net.arrays a no_array).name in
      let vs = get_or s.parts.given.arrays a [] in
      let ws = get_or t.parts.given.arrays a [] in
      let f = (array_at net.arrays s.parts.given.arrays a m.fits.stands.fit.arrays l).patterns in
      let g = (array_at net.arrays t.parts.given.arrays a k.fits.stands.fit.arrays l).patterns in
      let line = after_word name (codes "=") (codes "=") (map (written ty) vs) (map (written ty) ws)
      (after_word (codes "array") name name (codes "=" ∷ map (written ty) vs) (codes "=" ∷ map (written ty) ws) (arrays.0 a (omega arith) l)) in
      writtens_same ty vs ws f g (ap (drop 1) (one_words (codes "=") (codes "=") (map (written ty) vs) (map (written ty) ws) (elements_lack ty vs f) (elements_lack ty ws g) line))

  -- ---- strays

  strays : (a : ℕ) → 0 ≤ a → a < length net.arrays → words (codes "stray" ∷ (get_or net.arrays a no_array).name ∷ decimal (get_or s.parts.strays a 0) ∷ []) ≡ words (codes "stray" ∷ (get_or net.arrays a no_array).name ∷ decimal (get_or t.parts.strays a 0) ∷ [])
  strays = (ones _ _ 0 (length net.arrays) (length net.arrays) (end_line ∷ []) (end_line ∷ []) (omega arith) arrays.1).0

  stray_same : (a : ℕ) → a < length net.arrays → get_or s.parts.strays a 0 ≡ get_or t.parts.strays a 0
  stray_same a l =
      let name = (get_or net.arrays a no_array).name in
      let v = get_or s.parts.strays a 0 in
      let w = get_or t.parts.strays a 0 in
      let most = m.fits.strays a in
      let more = k.fits.strays a in
      decimal_injective v w (omega arith) (omega arith)
      (after_word name (decimal v) (decimal w) [] [] (after_word (codes "stray") name name (decimal v ∷ []) (decimal w ∷ []) (strays a (omega arith) l)))

  -- ---- all of it

  shares : ToStrays net (length net.arrays) t s
  shares = record {
    before = record {
      before = record {
        before = record {
          before = record {
            before = record { before = record { made = made; scalars = scalar_at }; fired = λ u l. fired.0 u (omega arith) l };
            value = value.0;
            tokens = λ c l. tokens.0 c (omega arith) l;
          };
          sent = λ u l. sent.0 u (omega arith) l;
        };
        queues = λ u l. queues.0 u (omega arith) l;
      };
      arrays = array_same;
    };
    strays = stray_same;
  }

  pub one_state : s ≡ t
  one_state = all_same net (length net.arrays) (omega arith) t s k m shares

pub is_one : (net : Net) → IsChecked net → (d : Saved) → MaySave net d → IsOne net d
is_one net checked d m s k e = one_state net checked s d k m e
