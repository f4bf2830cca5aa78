-- The lines of queues and of their entries.
use Rattle.std.proofs.Common.{◌≡◌, ◌≢◌, ◌⊎◌, ℕ, zero, suc, ◌+◌, ◌-◌, ◌<◌, ◌≤◌, ◌^◌, Bool, true, false, Option, Some, None, List, [], ◌∷◌, ◌++◌, map, length, drop, get_or, set, codes, decimal, refl, sym, ap, subst, ◌∙◌, inl, inr, arith, lit<, get_or-set_same, get_or-set_other, length-set}
use Rattle.std.specs.List.{All}
use Rattle.std.specs.Option.{IfSome}
use Rattle.std.proofs.lemmas.Nat.{pow_pos}
use Rattle.std.proofs.lemmas.Bool.{false≢true, cases_eq, cases_lt}
use Rattle.std.proofs.lemmas.Fmt.{decimal_injective}
use Rattle.std.proofs.lemmas.List.{ext_get_or, drop_more, drop_all, get_or_past, get_or_default}
use Rattle.el_base.specs.declared.ty.Array.{Array}
use Rattle.net_types.specs.declared.net.Net.{Net}
use Rattle.net_types.specs.declared.net.Port.{Port}
use Rattle.net_types.specs.declared.net.Port.TheVariants.{Load}
use Rattle.net_types.specs.declared.net.Unit.{Unit as Kind}
use Rattle.net_types.specs.declared.net.Unit.TheVariants.{Entry as Start, Param, Const, Op1, Op2, Select, Fork, Mux, Cmerge, Branch, Sink, Read, Lsq, Exit}
use Rattle.net_types.specs.Nets.{kind_of}
use Rattle.net_types.specs.Tables.{array_width}
use Rattle.net_check.specs.Checks.{IsChecked}
use Rattle.net_check.specs.Ends.{is_lsq}
use Rattle.net_check.specs.Shapes.{HasShape}
use Rattle.net_text.specs.Reads.{lacks}
use Rattle.net_text.proofs.Cuts.{decimal_lacks}
use Rattle.lsq_core.specs.declared.entry.Entry.{Entry}
use Rattle.lsq_core.specs.declared.part.QueuePart.{QueuePart}
use Rattle.lsq_core.specs.Acts.{is_store, fresh_entry}
use Rattle.lsq_core.specs.Parts.{MayStand, queue_of}
use Rattle.lsq_core.specs.Views.{blank, entry_at}
use Rattle.net_core.specs.Parts.{no_part, OwnStands}
use Rattle.net_core.specs.declared.parts.Parts.{Parts}
use Rattle.snapshot.specs.declared.draft.Draft.{Draft}
use Rattle.snapshot.specs.declared.draft.Stage.{Stage}
use Rattle.snapshot.specs.declared.draft.Stage.TheVariants.{Opened, Entries}
use Rattle.snapshot.specs.declared.saved.Saved.{Saved}
use Rattle.snapshot.specs.Fits.{EntryFits, Fits, UnitFits, max_count}
use Rattle.snapshot.specs.Refusals.{MaySave}
use Rattle.snapshot.specs.Texts.{each, words, maybe, digit, entry_line, part_lines, queue_lines, array_lines, from_arrays, from_strays}
use Rattle.snapshot.specs.private.Words.{AreWords, queue_words, entry_fields, entry_words, EntryIsOf, EntryOf, depth_of, first_stores, fresh_run}
use Rattle.snapshot.specs.private.Drafts.{AgreeBelow, BlankFrom, ToForks, ToQueues, ToOpened, ToEntries, ToArrays, at_queues, at_entries, at_arrays, entries_of, IsQueueAt, IsOpened, Takes, Taken, Refuses}
use Rattle.snapshot.proofs.Agrees.{agree_set, agree_unset, each_unroll, each_none, skip}
use Rattle.snapshot.proofs.Frames.{QueueFits, fits_queue}
use Rattle.snapshot.proofs.Keys.{key, no_entry}
use Rattle.snapshot.proofs.Spelt.{LackAll, lack_more, lack_none, same_words, one_words, MaybeSmall, maybe_same, maybe_lacks, digit_same, digit_lacks}
use Rattle.snapshot.proofs.Stages1.{Passes, first_of, each_start}

-- ---- entries and their words

module _ (width : ℕ) (thin : (v : ℕ) → v < 2 ^ width → v < 2 ^ 64) (ports : List Port) (few : length ports < 2 ^ 32) where
  addr_small : (o : Option ℕ) → IfSome o (λ v. v < 2 ^ 64) → MaybeSmall o
  addr_small None h = tt
  addr_small (Some v) h = h

  datum_small : (o : Option ℕ) → IfSome o (λ v. v < 2 ^ width) → MaybeSmall o
  datum_small None h = tt
  datum_small (Some v) h = thin v h

  port_small : (x : Entry) → EntryIsOf width ports x → x.port < 2 ^ 64
  port_small x h = let p = h.port in omega arith

  pub entry_lack : (c : ℕ) → lacks c (codes "entry") ≡ true → c < 45 → (x : Entry) → EntryIsOf width ports x → LackAll c (entry_words x)
  entry_lack c word low x h =
      lack_more c (codes "entry") _ word (lack_more c (decimal x.serial) _ (decimal_lacks c x.serial (omega arith) h.serial)
      (lack_more c (decimal x.port) _ (decimal_lacks c x.port (omega arith) (port_small x h))
      (lack_more c (maybe x.addr) _ (maybe_lacks c x.addr low (addr_small x.addr h.fits.addr))
      (lack_more c (maybe x.datum) _ (maybe_lacks c x.datum low (datum_small x.datum h.fits.datum))
      (lack_more c (digit x.done) _ (digit_lacks c x.done low)
      (lack_more c (decimal x.value) _ (decimal_lacks c x.value (omega arith) (thin x.value h.fits.value))
      (lack_more c (digit x.replied) [] (digit_lacks c x.replied low) (lack_none c))))))))

  pub entry_same : (x y : Entry) → EntryIsOf width ports x → EntryIsOf width ports y → entry_words x ≡ entry_words y → x ≡ y
  entry_same x y f g e =
      let serial = decimal_injective x.serial y.serial f.serial g.serial (ap (λ w. get_or w 1 []) e) in
      let port = decimal_injective x.port y.port (port_small x f) (port_small y g) (ap (λ w. get_or w 2 []) e) in
      let addr = maybe_same x.addr y.addr (addr_small x.addr f.fits.addr) (addr_small y.addr g.fits.addr) (ap (λ w. get_or w 3 []) e) in
      let datum = maybe_same x.datum y.datum (datum_small x.datum f.fits.datum) (datum_small y.datum g.fits.datum) (ap (λ w. get_or w 4 []) e) in
      let done = digit_same x.done y.done (ap (λ w. get_or w 5 []) e) in
      let value = decimal_injective x.value y.value (thin x.value f.fits.value) (thin y.value g.fits.value) (ap (λ w. get_or w 6 []) e) in
      let replied = digit_same x.replied y.replied (ap (λ w. get_or w 7 []) e) in
      let store : x.store ≡ y.store = f.fits.side ∙ ap (λ p. is_store (get_or ports p Load)) port ∙ sym g.fits.side in
      λ i. record { serial = serial i; port = port i; store = store i; addr = addr i; datum = datum i; done = done i; value = value i; replied = replied i }

-- ---- the queue of a unit

-- what is known of a queue that may be saved
pub record QueueFacts (net : Net) (k : Kind) (q : QueuePart) : Type 0 where
  pub room : length q.entries ≤ depth_of k
  pub order : (i : ℕ) → i < length q.entries → (entry_at q.entries i).serial + length q.entries ≡ q.next + i
  pub each_one : (i : ℕ) → i < length q.entries → EntryOf net k (entry_at q.entries i)
  pub numbered : length q.entries ≤ q.next
  pub next : q.next ≤ max_count

queue_facts : (net : Net) (k : Kind) (p : Parts) (u : ℕ) → is_lsq k ≡ true → OwnStands k p u → UnitFits net p u k → (get_or p.queues u no_part).next ≤ max_count → QueueFacts net k (get_or p.queues u no_part)
queue_facts net (Lsq a d ps gs f) p u is own fits next = record {
  room = own.room;
  order = own.order;
  each_one = λ i l. record { fits = fits i blank l; serial = (let o = own.order i l in omega arith); port = own.named i l };
  numbered = own.numbered;
  next = next;
}
queue_facts net Start p u is own fits next = absurd (false≢true is)
queue_facts net k p u is own fits next = absurd (false≢true is)

queue_made : (net : Net) (k : Kind) (q : QueuePart) → is_lsq k ≡ true → QueueFacts net k q → QueueFits net q k
queue_made net (Lsq a d ps gs f) q is h = (
  record { room = h.room; order = h.order; named = λ i l. (h.each_one i l).port; numbered = h.numbered; next = (let n = h.next in omega arith) },
  λ i x l. subst (EntryFits (array_width net.arrays a) ps) (default i x l) (h.each_one i l).fits,
)
  where
    default : (i : ℕ) (x : Entry) → i < length q.entries → get_or q.entries i blank ≡ get_or q.entries i x
    default i x l = get_or_default q.entries i blank x l
queue_made net Start q is h = absurd (false≢true is)
queue_made net k q is h = absurd (false≢true is)

-- new entries of the first port
fresh_of : (net : Net) (k : Kind) (n : ℕ) → is_lsq k ≡ true → HasShape k → n < 2 ^ 64 → EntryOf net k (fresh_entry n 0 (first_stores k))
fresh_of net (Lsq a d ps gs f) n is shape small = record {
  fits = record { side = refl; addr = tt; datum = tt; at_store = λ e. refl; executed = refl; value = pow_some (array_width net.arrays a); of_store = λ e. refl; of_waiting = λ e. refl; replied = λ e. absurd (false≢true e) };
  serial = small;
  port = shape.some_port;
}
  where
    pow_some : (w : ℕ) → 0 < 2 ^ w
    pow_some w = pow_pos w
fresh_of net Start n is shape small = absurd (false≢true is)
fresh_of net k n is shape small = absurd (false≢true is)

length-run : (n m : ℕ) (store : Bool) → length (fresh_run n m store) ≡ m
length-run n zero store = refl
length-run n (suc m) store = ap suc (length-run (suc n) m store)

run_at : (n m i : ℕ) (store : Bool) → i < m → entry_at (fresh_run n m store) i ≡ fresh_entry (n + i) 0 store
run_at n zero i store l = absurd (omega arith)
run_at n (suc m) zero store l = ap (λ k. fresh_entry k 0 store) (omega arith)
run_at n (suc m) (suc i) store l = run_at (suc n) m i store (omega arith) ∙ ap (λ k. fresh_entry k 0 store) (omega arith)

-- one new entry more
more_by : (n m : ℕ) (store : Bool) → fresh_run n (suc m) store ≡ fresh_run n m store ++ fresh_entry (n + m) 0 store ∷ []
more_by n zero store = ap (λ k. fresh_entry k 0 store ∷ []) (let e : n ≡ n + 0 = omega arith in e)
more_by n (suc m) store =
    ap (λ l. fresh_entry n 0 store ∷ l) (more_by (suc n) m store)
    ∙ ap (λ k. fresh_entry n 0 store ∷ (fresh_run (suc n) m store ++ fresh_entry k 0 store ∷ [])) (let e : suc n + m ≡ n + suc m = omega arith in e)

pub run_more : (n m : ℕ) (store : Bool) → fresh_run n (m + 1) store ≡ fresh_run n m store ++ fresh_entry (n + m) 0 store ∷ []
run_more n m store = ap (λ k. fresh_run n k store) (let e : m + 1 ≡ suc m = omega arith in e) ∙ more_by n m store

-- an entry with new ones after it, up to the next serial number
pub opened_facts : (net : Net) (k : Kind) (x : Entry) (next : ℕ) → is_lsq k ≡ true → HasShape k → EntryOf net k x → x.serial < next → next - x.serial ≤ depth_of k → next ≤ max_count
    → QueueFacts net k (record { next = next; entries = x ∷ fresh_run (x.serial + 1) (next - (x.serial + 1)) (first_stores k) })
opened_facts net k x next is shape of below room most = record {
  room = omega (arith, long, room, below);
  order = λ i l. order i l;
  each_one = λ i l. each_one i l;
  numbered = omega (arith, long, below);
  next = most;
}
  where
    run : List Entry
    run = fresh_run (x.serial + 1) (next - (x.serial + 1)) (first_stores k)

    long : length (fresh_run (x.serial + 1) (next - (x.serial + 1)) (first_stores k)) ≡ next - (x.serial + 1)
    long = length-run (x.serial + 1) (next - (x.serial + 1)) (first_stores k)

    order : (i : ℕ) → i < length (x ∷ fresh_run (x.serial + 1) (next - (x.serial + 1)) (first_stores k))
        → (entry_at (x ∷ fresh_run (x.serial + 1) (next - (x.serial + 1)) (first_stores k)) i).serial + length (x ∷ fresh_run (x.serial + 1) (next - (x.serial + 1)) (first_stores k)) ≡ next + i
    order zero l = omega (arith, long, below)
    order (suc i) l =
        let at = ap (λ (y : Entry). y.serial) (run_at (x.serial + 1) (next - (x.serial + 1)) i (first_stores k) (omega (arith, long, l))) in
        omega (arith, at, long, below, l)

    each_one : (i : ℕ) → i < length (x ∷ fresh_run (x.serial + 1) (next - (x.serial + 1)) (first_stores k)) → EntryOf net k (entry_at (x ∷ fresh_run (x.serial + 1) (next - (x.serial + 1)) (first_stores k)) i)
    each_one zero l = of
    each_one (suc i) l =
        subst (EntryOf net k) (sym (run_at (x.serial + 1) (next - (x.serial + 1)) i (first_stores k) (omega (arith, long, l))))
        (fresh_of net k (x.serial + 1 + i) is shape (omega (arith, long, l, most, below)))

-- an entry of the same serial number in the place of another
pub set_facts : (net : Net) (k : Kind) (q : QueuePart) (i : ℕ) (x : Entry) → QueueFacts net k q → i < length q.entries → EntryOf net k x → x.serial ≡ (entry_at q.entries i).serial → QueueFacts net k (record q { entries = set q.entries i x })
set_facts net k q i x h low of same = record {
  room = omega (arith, length-set q.entries i x, h.room);
  order = λ j l. order j (omega (arith, length-set q.entries i x, l)) (cases_eq j i);
  each_one = λ j l. each_one j (omega (arith, length-set q.entries i x, l)) (cases_eq j i);
  numbered = omega (arith, length-set q.entries i x, h.numbered);
  next = h.next;
}
  where
    order : (j : ℕ) → j < length q.entries → (j ≡ i) ⊎ (j ≡ i → ⊥) → (entry_at (set q.entries i x) j).serial + length (set q.entries i x) ≡ q.next + j
    order j l (inl e) =
        let at = ap (λ (y : Entry). y.serial) (ap (entry_at (set q.entries i x)) e ∙ get_or-set_same q.entries i x blank low) in
        omega (arith, at, same, h.order i low, e, length-set q.entries i x)
    order j l (inr n) =
        let at = ap (λ (y : Entry). y.serial) (get_or-set_other q.entries i j x blank n) in
        omega (arith, at, h.order j l, length-set q.entries i x)

    each_one : (j : ℕ) → j < length q.entries → (j ≡ i) ⊎ (j ≡ i → ⊥) → EntryOf net k (entry_at (set q.entries i x) j)
    each_one j l (inl e) = subst (EntryOf net k) (sym (ap (entry_at (set q.entries i x)) e ∙ get_or-set_same q.entries i x blank low)) of
    each_one j l (inr n) = subst (EntryOf net k) (sym (get_or-set_other q.entries i j x blank n)) (h.each_one j l)

-- of a unit of a net
pub facts_at : (net : Net) (s : Saved) (u : ℕ) → MaySave net s → u < length net.units → is_lsq (kind_of net u) ≡ true → QueueFacts net (kind_of net u) (get_or s.parts.queues u no_part)
facts_at net s u m w is = queue_facts net (kind_of net u) s.parts u is (m.fits.stands.own u w) (m.fits.units u) (m.fits.serials u)

pub made_at : (net : Net) (u : ℕ) (q : QueuePart) → is_lsq (kind_of net u) ≡ true → QueueFacts net (kind_of net u) q → QueueFits net q (kind_of net u)
made_at net u q is h = queue_made net (kind_of net u) q is h

-- a line of an entry has the words of one entry alone
module _ (net : Net) (checked : IsChecked net) (thin : (x v : ℕ) → v < 2 ^ array_width net.arrays x → v < 2 ^ 64) where
  line_words_of : (k : Kind) (ws : List (List ℕ)) (x : Entry) → ((b d : ℕ) (ps : List Port) (gs : List (List ℕ)) (f : Bool) → k ≡ Lsq b d ps gs f → length ps < 2 ^ 32) → AreWords ws → EntryOf net k x → entry_line x ≡ words ws → entry_words x ≡ ws
  line_words_of (Lsq b d ps gs f) ws x few a h e = same_words (codes "entry") (entry_fields x) ws (entry_lack (array_width net.arrays b) (thin b) ps (few b d ps gs f refl) 32 refl (lit< tt) x h) a e
  line_words_of Start ws x few a h e = absurd h
  line_words_of k ws x few a h e = absurd h

  pub entry_line_words : (u : ℕ) (ws : List (List ℕ)) (x : Entry) → AreWords ws → EntryOf net (kind_of net u) x → entry_line x ≡ words ws → entry_words x ≡ ws
  entry_line_words u ws x a h e = line_words_of (kind_of net u) ws x (λ b d ps gs f is. checked.numbered.ports u b d ps gs f is) a h e

  line_same_of : (k : Kind) (x y : Entry) → ((b d : ℕ) (ps : List Port) (gs : List (List ℕ)) (f : Bool) → k ≡ Lsq b d ps gs f → length ps < 2 ^ 32) → EntryOf net k x → EntryOf net k y → entry_words x ≡ entry_words y → x ≡ y
  line_same_of (Lsq b d ps gs f) x y few g h e = entry_same (array_width net.arrays b) (thin b) ps (few b d ps gs f refl) x y g h e
  line_same_of Start x y few g h e = absurd h
  line_same_of k x y few g h e = absurd h

  pub entry_line_same : (u : ℕ) (x y : Entry) → EntryOf net (kind_of net u) x → EntryOf net (kind_of net u) y → entry_words x ≡ entry_words y → x ≡ y
  entry_line_same u x y g h e = line_same_of (kind_of net u) x y (λ b d ps gs f is. checked.numbered.ports u b d ps gs f is) g h e

  entry_one_of : (k : Kind) (x y : Entry) → ((b d : ℕ) (ps : List Port) (gs : List (List ℕ)) (f : Bool) → k ≡ Lsq b d ps gs f → length ps < 2 ^ 32) → EntryOf net k x → EntryOf net k y → entry_line x ≡ entry_line y → x ≡ y
  entry_one_of (Lsq b d ps gs f) x y few g h e =
      let lack : (z : Entry) → EntryIsOf (array_width net.arrays b) ps z → LackAll 32 (entry_words z) = λ z i. entry_lack (array_width net.arrays b) (thin b) ps (few b d ps gs f refl) 32 refl (lit< tt) z i in
      entry_same (array_width net.arrays b) (thin b) ps (few b d ps gs f refl) x y g h (one_words (codes "entry") (codes "entry") (entry_fields x) (entry_fields y) (lack x g) (lack y h) e)
  entry_one_of Start x y few g h e = absurd h
  entry_one_of k x y few g h e = absurd h

  -- a line is that of one entry
  pub entry_one : (u : ℕ) (x y : Entry) → EntryOf net (kind_of net u) x → EntryOf net (kind_of net u) y → entry_line x ≡ entry_line y → x ≡ y
  entry_one u x y g h e = entry_one_of (kind_of net u) x y (λ b d ps gs f is. checked.numbered.ports u b d ps gs f is) g h e
