-- The lines of entries: what each makes of the draft, and when it may not be next.
use Rattle.std.proofs.Common.{◌≡◌, ◌⊎◌, ℕ, ◌+◌, ◌-◌, ◌<◌, ◌≤◌, ◌^◌, List, [], ◌∷◌, ◌++◌, map, length, drop, get_or, set, refl, sym, ap, subst, ◌∙◌, inl, inr, arith, get_or-set_same, get_or-set_other, length-set}
use Rattle.std.proofs.lemmas.Bool.{cases_lt}
use Rattle.std.proofs.lemmas.List.{ext_get_or, drop_more, drop_all, nil_from_length}
use Rattle.net_types.specs.declared.net.Net.{Net}
use Rattle.net_types.specs.Nets.{kind_of}
use Rattle.net_types.specs.Tables.{array_width}
use Rattle.net_check.specs.Checks.{IsChecked}
use Rattle.lsq_core.specs.declared.entry.Entry.{Entry}
use Rattle.lsq_core.specs.declared.part.QueuePart.{QueuePart}
use Rattle.lsq_core.specs.Views.{blank, entry_at}
use Rattle.net_core.specs.Parts.{no_part}
use Rattle.snapshot.specs.declared.draft.Stage.TheVariants.{Entries}
use Rattle.snapshot.specs.declared.saved.Saved.{Saved}
use Rattle.snapshot.specs.Fits.{Fits}
use Rattle.snapshot.specs.Refusals.{MaySave}
use Rattle.snapshot.specs.Texts.{words, entry_line}
use Rattle.snapshot.specs.private.Words.{AreWords, entry_words, EntryOf, depth_of, first_stores, fresh_run}
use Rattle.snapshot.specs.private.Drafts.{AgreeBelow, ToQueues, ToOpened, ToEntries, at_queues, at_entries, entries_of, IsQueueAt, IsOpened, Taken, Refuses}
use Rattle.snapshot.proofs.Agrees.{agree_set, agree_unset}
use Rattle.snapshot.proofs.Frames.{fits_queue}
use Rattle.snapshot.proofs.Keys.{key, no_entry}
use Rattle.snapshot.proofs.Stages1.{Passes, first_of}
use Rattle.snapshot.proofs.Stages3.{QueueFacts, facts_at, made_at, entry_line_same, entry_line_words, opened_facts, set_facts}
use Rattle.snapshot.proofs.Stages4.{forks_like}

pub same_part : (p q : QueuePart) → p.next ≡ q.next → p.entries ≡ q.entries → p ≡ q
same_part p q a b = λ i. record { next = a i; entries = b i }

-- agreement below the next place, from that at this one
agree_next : {V : Type 0} (v : V) (n : ℕ) (xs ys : List V) → AgreeBelow v n xs ys → get_or xs n v ≡ get_or ys n v → AgreeBelow v (n + 1) xs ys
agree_next {V} v n xs ys h e j low = by (cases_lt j n)
  where
    by : (j < n) ⊎ (n ≤ j) → get_or xs j v ≡ get_or ys j v
    by (inl l) = h j l
    by (inr l) = let z : j ≡ n = omega arith in ap (λ i. get_or xs i v) z ∙ e ∙ ap (λ i. get_or ys i v) (sym z)

module _ (net : Net) (checked : IsChecked net) (thin : (x v : ℕ) → v < 2 ^ array_width net.arrays x → v < 2 ^ 64) (ws : List (List ℕ)) (a : AreWords ws) (u : ℕ) (at : IsQueueAt net u) where
  facts : (s : Saved) → MaySave net s → QueueFacts net (kind_of net u) (get_or s.parts.queues u no_part)
  facts s m = facts_at net s u m at.within at.queue

  -- the entry that a state's line tells
  first_entry : (s : Saved) → MaySave net s → (i : ℕ) → i < length (entries_of s u) → (more : List (List ℕ)) → at_entries net u i s ≡ words ws ∷ more → entry_words (entry_at (entries_of s u) i) ≡ ws
  first_entry s m i l more e =
      let line : entry_line (entry_at (entries_of s u) i) ∷ (map entry_line (drop (i + 1) (entries_of s u)) ++ at_queues net (u + 1) s) ≡ words ws ∷ more =
      ap (λ xs. map entry_line xs ++ at_queues net (u + 1) s) (sym (drop_more (entries_of s u) i blank l)) ∙ e in
      entry_line_words net checked thin u ws (entry_at (entries_of s u) i) a ((facts s m).each_one i l) (first_of _ _ (words ws) more line)

  -- where the entries are over, the rest is of the queues after it
  over : (s : Saved) (i : ℕ) → length (entries_of s u) ≤ i → at_entries net u i s ≡ at_queues net (u + 1) s
  over s i l = ap (λ xs. map entry_line xs ++ at_queues net (u + 1) s) (drop_all i (entries_of s u) l)

  -- no entry where none is next
  none_later : (s : Saved) (i : ℕ) → length (entries_of s u) ≤ i → (more : List (List ℕ)) → at_entries net u i s ≡ words ws ∷ more → (x : Entry) → entry_words x ≡ ws → ⊥
  none_later s i l more e x is = no_entry net s.parts (u + 1) (length net.units - (u + 1)) (words ws) more (sym (over s i l) ∙ e) (ap (λ y. key (words y)) (sym is))

  -- ---- after the queue's line

  -- it has no entry
  pub opened_pass : (d : Saved) → MaySave net d → IsOpened net u d → ((x : Entry) → EntryOf net (kind_of net u) x → entry_words x ≡ ws → ⊥)
      → Passes net (ToOpened net u d) (at_entries net u 0) (words ws) (ToQueues net (u + 1) d) (at_queues net (u + 1))
  opened_pass d m b never = record {
    forth = λ s k t more e. record {
      before = t.before.before;
      queues = agree_next no_part u s.parts.queues d.parts.queues t.before.queues (same_part _ _ t.next (empty s k more e (cases_lt 0 (length (entries_of s u))) ∙ sym b.none));
    };
    back = λ s k t. (
      record { before = record { before = t.before; queues = λ j l. t.queues j (omega arith) }; next = ap (λ (q : QueuePart). q.next) (t.queues u (omega arith)) },
      over s 0 (let z = ap length (ap (λ (q : QueuePart). q.entries) (t.queues u (omega arith)) ∙ b.none) in omega arith),
    );
  }
    where
      empty : (s : Saved) → MaySave net s → (more : List (List ℕ)) → at_entries net u 0 s ≡ words ws ∷ more → (0 < length (entries_of s u)) ⊎ (length (entries_of s u) ≤ 0) → entries_of s u ≡ []
      empty s k more e (inl l) = absurd (never (entry_at (entries_of s u) 0) ((facts s k).each_one 0 l) (first_entry s k 0 l more e))
      empty s k more e (inr l) = nil_from_length (entries_of s u) (omega arith)

  -- the first one leaves more than the depth, or none
  pub opened_refused : (d : Saved) (x : Entry) → EntryOf net (kind_of net u) x → entry_words x ≡ ws
      → ((get_or d.parts.queues u no_part).next ≤ x.serial) ⊎ (depth_of (kind_of net u) < (get_or d.parts.queues u no_part).next - x.serial) → Refuses net (ToOpened net u d) (at_entries net u 0) (words ws)
  opened_refused d x of is out s m t more e = by (cases_lt 0 (length (entries_of s u)))
    where
      by : (0 < length (entries_of s u)) ⊎ (length (entries_of s u) ≤ 0) → ⊥
      by (inr l) = none_later s 0 l more e x is
      by (inl l) =
          let f = facts s m in
          let y = entry_line_same net checked thin u (entry_at (entries_of s u) 0) x (f.each_one 0 l) of (first_entry s m 0 l more e ∙ sym is) in
          let serial = ap (λ (z : Entry). z.serial) y in
          against out (omega (arith, f.order 0 l, serial, l, t.next)) (omega (arith, f.order 0 l, serial, f.room, t.next))
        where
          against : ((get_or d.parts.queues u no_part).next ≤ x.serial) ⊎ (depth_of (kind_of net u) < (get_or d.parts.queues u no_part).next - x.serial)
              → x.serial < (get_or d.parts.queues u no_part).next → (get_or d.parts.queues u no_part).next - x.serial ≤ depth_of (kind_of net u) → ⊥
          against (inl c) p q = omega arith
          against (inr c) p q = omega arith

  -- the data with another queue at the unit
  abbrev with_queues : Saved → List QueuePart → Saved
  with_queues d qs = record d { parts = record d.parts { queues = qs } }

  module _ (d : Saved) (m : MaySave net d) (q : QueuePart) (qs : List QueuePart) (new : qs ≡ set d.parts.queues u q) where
    long : u < length d.parts.queues
    long = let z = m.fits.by_unit.queues_long in let w = at.within in omega arith

    here : get_or qs u no_part ≡ q
    here = ap (λ (l : List QueuePart). get_or l u no_part) new ∙ get_or-set_same d.parts.queues u q no_part long

    other : (j : ℕ) → (j ≡ u → ⊥) → get_or qs j no_part ≡ get_or d.parts.queues j no_part
    other j z = ap (λ (l : List QueuePart). get_or l j no_part) new ∙ get_or-set_other d.parts.queues u j q no_part z

    may_set : QueueFacts net (kind_of net u) q → MaySave net (with_queues d qs)
    may_set f = record { made = m.made; fits = subst (λ (l : List QueuePart). Fits net (record d.parts { queues = l })) (sym new) (fits_queue net d.parts u q m.fits at.within (made_at net u q at.queue f) f.next) }

    to_new : (s : Saved) → ToQueues net u d s → ToQueues net u (with_queues d qs) s
    to_new s t = record { before = forks_like net _ d (with_queues d qs) s t.before refl refl refl refl refl refl; queues = λ j l. t.queues j l ∙ sym (other j (λ z. omega arith)) }

    to_old : (s : Saved) → ToQueues net u (with_queues d qs) s → ToQueues net u d s
    to_old s t = record { before = forks_like net _ (with_queues d qs) d s t.before refl refl refl refl refl refl; queues = λ j l. t.queues j l ∙ other j (λ z. omega arith) }

  pub opened_taken : (d : Saved) (m : MaySave net d) (x : Entry) (qs : List QueuePart) → EntryOf net (kind_of net u) x → entry_words x ≡ ws → x.serial < (get_or d.parts.queues u no_part).next
      → (get_or d.parts.queues u no_part).next - x.serial ≤ depth_of (kind_of net u)
      → qs ≡ set d.parts.queues u (record { next = (get_or d.parts.queues u no_part).next; entries = x ∷ fresh_run (x.serial + 1) ((get_or d.parts.queues u no_part).next - (x.serial + 1)) (first_stores (kind_of net u)) })
      → Taken net (ToOpened net u d) (at_entries net u 0) (words ws) (record { stage = Entries u 1; saved = with_queues d qs })
  opened_taken d m x qs of is below room new = record {
    stands = record { may = may_set d m part qs new made; blank = at };
    takes = record {
      forth = λ s k t more e. forth_at s k t more e (cases_lt 0 (length (entries_of s u)));
      back = λ s k t. (
        record { before = to_old d m part qs new s t.before.before; next = t.before.next ∙ ap (λ (q : QueuePart). q.next) (here d m part qs new) },
        line_is s t,
      );
    };
  }
    where
      next : ℕ
      next = (get_or d.parts.queues u no_part).next

      part : QueuePart
      part = record { next = (get_or d.parts.queues u no_part).next; entries = x ∷ fresh_run (x.serial + 1) ((get_or d.parts.queues u no_part).next - (x.serial + 1)) (first_stores (kind_of net u)) }

      made : QueueFacts net (kind_of net u) part
      made = opened_facts net (kind_of net u) x (get_or d.parts.queues u no_part).next at.queue (checked.shapes u) of below room (m.fits.serials u)

      entries_new : entries_of (with_queues d qs) u ≡ part.entries
      entries_new = ap (λ (q : QueuePart). q.entries) (here d m part qs new)

      forth_at : (s : Saved) → MaySave net s → ToOpened net u d s → (more : List (List ℕ)) → at_entries net u 0 s ≡ words ws ∷ more → (0 < length (entries_of s u)) ⊎ (length (entries_of s u) ≤ 0) → ToEntries net u 1 (with_queues d qs) s
      forth_at s k t more e (inr l) = absurd (none_later s 0 l more e x is)
      forth_at s k t more e (inl l) =
          let f = facts s k in
          let y = entry_line_same net checked thin u (entry_at (entries_of s u) 0) x (f.each_one 0 l) of (first_entry s k 0 l more e ∙ sym is) in
          let serial = ap (λ (z : Entry). z.serial) y in
          record {
            before = record { before = to_new d m part qs new s t.before; next = t.next ∙ sym (ap (λ (q : QueuePart). q.next) (here d m part qs new)) };
            long = omega (arith, f.order 0 l, serial, t.next, made.order 0 (omega arith), l) ∙ sym (ap length entries_new);
            entries = λ j low. (let z : j ≡ 0 = omega arith in ap (entry_at (entries_of s u)) z ∙ y ∙ sym (ap (λ es. entry_at es 0) entries_new) ∙ ap (entry_at (entries_of (with_queues d qs) u)) (sym z));
          }

      line_is : (s : Saved) → ToEntries net u 1 (with_queues d qs) s → at_entries net u 0 s ≡ words ws ∷ at_entries net u 1 s
      line_is s t =
          let long = t.long ∙ ap length entries_new in
          ap (λ es. map entry_line es ++ at_queues net (u + 1) s) (drop_more (entries_of s u) 0 blank (omega (arith, long)))
          ∙ ap (λ y. entry_line y ∷ (map entry_line (drop 1 (entries_of s u)) ++ at_queues net (u + 1) s)) (t.entries 0 (omega arith) ∙ ap (λ es. entry_at es 0) entries_new)
          ∙ ap (λ l. words l ∷ at_entries net u 1 s) is

  -- ---- after an entry

  -- the entries are over
  pub entries_pass : (i : ℕ) (d : Saved) → length (entries_of d u) ≤ i → Passes net (ToEntries net u i d) (at_entries net u i) (words ws) (ToQueues net (u + 1) d) (at_queues net (u + 1))
  entries_pass i d past = record {
    forth = λ s k t more e. record {
      before = t.before.before.before;
      queues = agree_next no_part u s.parts.queues d.parts.queues t.before.before.queues (same_part _ _ t.before.next (ext_get_or blank (entries_of s u) (entries_of d u) t.long (λ j l. t.entries j (omega (arith, t.long, l)))));
    };
    back = λ s k t. (let q = t.queues u (omega arith) in (
      record {
        before = record { before = record { before = t.before; queues = λ j l. t.queues j (omega arith) }; next = ap (λ (q : QueuePart). q.next) q };
        long = ap (λ (q : QueuePart). length q.entries) q;
        entries = λ j l. ap (λ (q : QueuePart). entry_at q.entries j) q;
      },
      over s i (omega (arith, ap (λ (q : QueuePart). length q.entries) q)),
    ));
  }

  -- the entry of a state that is next
  next_entry : (s : Saved) → MaySave net s → (i : ℕ) (d : Saved) → i < length (entries_of d u) → MaySave net d → ToEntries net u i d s → (more : List (List ℕ)) → at_entries net u i s ≡ words ws ∷ more
      → (i < length (entries_of s u)) × (entry_words (entry_at (entries_of s u) i) ≡ ws) × ((entry_at (entries_of s u) i).serial ≡ (entry_at (entries_of d u) i).serial)
  next_entry s k i d l m t more e =
      let low : i < length (entries_of s u) = omega (arith, t.long) in (
        low,
        first_entry s k i low more e,
        omega (arith, t.long, (facts s k).order i low, (facts d m).order i l, t.before.next),
      )

  pub entries_refused : (i : ℕ) (d : Saved) → MaySave net d → i < length (entries_of d u) → ((x : Entry) → EntryOf net (kind_of net u) x → x.serial ≡ (entry_at (entries_of d u) i).serial → entry_words x ≡ ws → ⊥)
      → Refuses net (ToEntries net u i d) (at_entries net u i) (words ws)
  entries_refused i d m l never s k t more e =
      let n = next_entry s k i d l m t more e in
      never (entry_at (entries_of s u) i) ((facts s k).each_one i n.0) n.2 n.1

  pub entries_taken : (i : ℕ) (d : Saved) (m : MaySave net d) (x : Entry) (qs : List QueuePart) → i < length (entries_of d u) → EntryOf net (kind_of net u) x → x.serial ≡ (entry_at (entries_of d u) i).serial → entry_words x ≡ ws
      → qs ≡ set d.parts.queues u (record { next = (get_or d.parts.queues u no_part).next; entries = set (entries_of d u) i x })
      → Taken net (ToEntries net u i d) (at_entries net u i) (words ws) (record { stage = Entries u (i + 1); saved = with_queues d qs })
  entries_taken i d m x qs l of serial is new = record {
    stands = record { may = may_set d m part qs new made; blank = at };
    takes = record {
      forth = λ s k t more e. (let n = next_entry s k i d l m t more e in
          let y = entry_line_same net checked thin u (entry_at (entries_of s u) i) x ((facts s k).each_one i n.0) of (n.1 ∙ sym is) in
          record {
            before = record { before = to_new d m part qs new s t.before.before; next = t.before.next ∙ sym (ap (λ (q : QueuePart). q.next) (here d m part qs new)) };
            long = t.long ∙ sym (ap length entries_new ∙ length-set (entries_of d u) i x);
            entries = subst (AgreeBelow blank (i + 1) (entries_of s u)) (sym entries_new) (agree_set blank i (entries_of s u) (entries_of d u) x l y t.entries);
          });
      back = λ s k t. (let g = agree_unset blank i (entries_of s u) (entries_of d u) x l (subst (AgreeBelow blank (i + 1) (entries_of s u)) entries_new t.entries) in
          let long : length (entries_of s u) ≡ length (entries_of d u) = t.long ∙ ap length entries_new ∙ length-set (entries_of d u) i x in (
            record { before = record { before = to_old d m part qs new s t.before.before; next = t.before.next ∙ ap (λ (q : QueuePart). q.next) (here d m part qs new) }; long = long; entries = g.0 },
            ap (λ es. map entry_line es ++ at_queues net (u + 1) s) (drop_more (entries_of s u) i blank (omega (arith, long)))
                ∙ ap (λ y. entry_line y ∷ (map entry_line (drop (i + 1) (entries_of s u)) ++ at_queues net (u + 1) s)) g.1 ∙ ap (λ l. words l ∷ at_entries net u (i + 1) s) is,
          ));
    };
  }
    where
      part : QueuePart
      part = record { next = (get_or d.parts.queues u no_part).next; entries = set (entries_of d u) i x }

      made : QueueFacts net (kind_of net u) part
      made = set_facts net (kind_of net u) (get_or d.parts.queues u no_part) i x (facts d m) l of serial

      entries_new : entries_of (with_queues d qs) u ≡ set (entries_of d u) i x
      entries_new = ap (λ (q : QueuePart). q.entries) (here d m part qs new)
