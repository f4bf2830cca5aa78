-- Texts and their lines: what an answer says, from what the reader has found.
use Rattle.std.proofs.Common.{◌≡◌, ◌≢◌, ◌⊎◌, ℕ, ◌+◌, ◌<◌, ◌==◌, Bool, true, false, List, [], ◌∷◌, ◌++◌, map, length, drop, codes, decimal, get_or, None, Ok, Err, refl, sym, ap, subst, ◌∙◌, arith, lit<, append_assoc, inl, inr, eq-eqb}
use Rattle.std.specs.List.{All, flat_map, join_with_byte}
use Rattle.std.proofs.lemmas.Bool.{false≢true, ne_eqb}
use Rattle.std.proofs.lemmas.Fmt.{decimal_injective}
use Rattle.std.proofs.lemmas.List.{append-nil, map-append, length-append}
use Rattle.std.proofs.lemmas.List.Concat.{flat_map-append}
use Rattle.std.proofs.lemmas.List.Elements.{All-append, All-nil}
use Rattle.el_base.specs.Words.{is_identifier}
use Rattle.net_types.specs.declared.net.Net.{Net}
use Rattle.net_text.specs.declared.body.BodyLine.{BodyLine}
use Rattle.net_text.specs.declared.body.Stage.{Stage}
use Rattle.net_text.specs.declared.body.Stage.TheVariants.{Scalars, Arrays, Units, Chans, Ended}
use Rattle.net_text.specs.declared.version.Version.{Version}
use Rattle.net_text.specs.declared.version.Version.TheVariants.{One, Two}
use Rattle.net_text.specs.declared.refusal.TextRefusal.TheVariants as refusal
use Rattle.el_base.specs.Limits.{IsNumbered}
use Rattle.net_text.specs.Fits.{NameFits, NetFits, ScalarFits, ArrayFits, UnitFits, ChanFits, IsWritten, Writes}
use Rattle.net_text.specs.Pieces.{line}
use Rattle.net_text.specs.Texts.{NetText, OldText, version_number, version_parts, kernel_parts, scalar_parts, array_parts, result_parts, unit_parts, chan_parts, end_parts, net_lines, net_text}
use Rattle.net_text.specs.Reads.{version_text, kernel_text, scalar_text, array_text, result_text, unit_text, chan_text}
use Rattle.net_text.specs.Bodies.{Complete, text_of, first_text, texts, body_texts, LineFits, line_text, may_stand, stage_after, net_with}
use Rattle.net_text.specs.Refusals.{Begins, IsOtherVersion, Says}
use Rattle.net_text.proofs.Cuts.{cut_unique, decimal_lacks}
use Rattle.net_text.proofs.LineTexts.{identifier_lacks}
use Rattle.net_text.proofs.Lists.{All_single}
use Rattle.net_text.proofs.ReadLemmas.{after_word}
use Rattle.net_text.proofs.Paths.{Allowed, Path, reach, next, path_at, reach_more, may_same, next_text, body_path}
use Rattle.net_text.proofs.Drafts.{Holds, to_chans, body_whole, holds_more, holds_with, writes_with, name_with}

-- the lines of a net are its parts' lines
part_lines : {X : Type 0} (parts : X → List (List ℕ)) (text : X → List ℕ) → ((x : X) → join_with_byte 32 (parts x) ≡ text x) → (xs : List X) → map (join_with_byte 32) (map parts xs) ≡ map text xs
part_lines parts text same [] = refl
part_lines parts text same (x ∷ xs) = ap (λ l. l ∷ map (join_with_byte 32) (map parts xs)) (same x) ∙ ap (λ l. text x ∷ l) (part_lines parts text same xs)

whole_lines : {X : Type 0} (g : X → List ℕ) (v k r e : X) (ss xs us cs : List X) → map g ((v ∷ k ∷ (ss ++ xs ++ r ∷ [])) ++ us ++ cs ++ e ∷ []) ≡ g v ∷ g k ∷ (map g ss ++ (map g xs ++ (g r ∷ (map g us ++ (map g cs ++ g e ∷ [])))))
whole_lines g v k r e ss xs us cs = simp (map-append, append_assoc) refl

joined_lines : (ps : List (List (List ℕ))) → text_of (map (join_with_byte 32) ps) ≡ flat_map line ps
joined_lines [] = refl
joined_lines (p ∷ ps) = ap (λ l. line p ++ l) (joined_lines ps)

abbrev four : (v k : List ℕ) (r : List ℕ) → List (List ℕ) → List (List ℕ) → List (List ℕ) → List (List ℕ) → List (List ℕ)
four v k r ss xs us cs = v ∷ k ∷ (ss ++ (xs ++ (r ∷ (us ++ (cs ++ codes "end" ∷ [])))))

texts_lines : (ver : Version) (net : Net) → map (join_with_byte 32) (net_lines ver net) ≡ texts ver net
texts_lines ver net =
    let s = part_lines scalar_parts scalar_text (λ x. refl) net.scalars in
    let x = part_lines array_parts array_text (λ x. refl) net.arrays in
    let u = part_lines (unit_parts ver) (unit_text ver) (λ x. refl) net.units in
    let c = part_lines chan_parts chan_text (λ x. refl) net.chans in
    let v : List ℕ = first_text ver in
    let k : List ℕ = kernel_text net.name in
    let r : List ℕ = result_text net.result in
    whole_lines (join_with_byte 32) (version_parts ver) (kernel_parts net.name) (result_parts net.result) end_parts (map scalar_parts net.scalars) (map array_parts net.arrays) (map (unit_parts ver) net.units) (map chan_parts net.chans)
    ∙ ap (λ l. four v k r l (map (join_with_byte 32) (map array_parts net.arrays)) (map (join_with_byte 32) (map (unit_parts ver) net.units)) (map (join_with_byte 32) (map chan_parts net.chans))) s
    ∙ ap (λ l. four v k r (map scalar_text net.scalars) l (map (join_with_byte 32) (map (unit_parts ver) net.units)) (map (join_with_byte 32) (map chan_parts net.chans))) x
    ∙ ap (λ l. four v k r (map scalar_text net.scalars) (map array_text net.arrays) l (map (join_with_byte 32) (map chan_parts net.chans))) u
    ∙ ap (λ l. four v k r (map scalar_text net.scalars) (map array_text net.arrays) (map (unit_text ver) net.units) l) c

pub text_is : (ver : Version) (net : Net) → text_of (texts ver net) ≡ net_text ver net
text_is ver net = ap text_of (sym (texts_lines ver net)) ∙ joined_lines (net_lines ver net)

-- lines of a text, and one more
pub one_line : (ls : List (List ℕ)) (whole rest text after : List ℕ) → whole ≡ text_of ls ++ rest → rest ≡ text ++ 10 ∷ after → whole ≡ text_of (ls ++ text ∷ []) ++ after
one_line ls whole rest text after e r =
    e ∙ ap (λ l. text_of ls ++ l) r ∙ ap (λ l. text_of ls ++ l) (sym (append_assoc text (10 ∷ []) after)) ∙ sym (append_assoc (text_of ls) (text ++ 10 ∷ []) after)
    ∙ ap (λ l. (text_of ls ++ l) ++ after) (sym (append-nil (text ++ 10 ∷ []))) ∙ ap (λ l. l ++ after) (sym (flat_map-append (λ l. l ++ 10 ∷ []) ls (text ∷ [])))

-- no line feed stands in the first two lines
pub identifier_complete : (bs : List ℕ) → is_identifier bs ≡ true → Complete bs
identifier_complete bs h = identifier_lacks 10 refl refl bs h

pub kernel_complete : (name : List ℕ) → NameFits name → Complete (kernel_text name)
kernel_complete name h = identifier_complete name h

pub version_complete : (n : ℕ) → IsNumbered n → Complete (version_text n)
version_complete n h = decimal_lacks 10 n (lit< tt) (omega (arith, h))

-- the number of a version fits, and is of no other version
number_fits : (ver : Version) → IsNumbered (version_number ver)
number_fits One = lit< tt
number_fits Two = lit< tt

pub first_complete : (ver : Version) → Complete (first_text ver)
first_complete ver = version_complete (version_number ver) (number_fits ver)

numbered_once : (v w : Version) → version_number v ≡ version_number w → v ≡ w
numbered_once One One e = refl
numbered_once Two Two e = refl
numbered_once One Two e = absurd (omega (arith, e))
numbered_once Two One e = absurd (omega (arith, e))

same_number : (ver : Version) (n : ℕ) → IsNumbered n → first_text ver ≡ version_text n → version_number ver ≡ n
same_number ver n f e = decimal_injective (version_number ver) n (omega (arith, number_fits ver)) (omega (arith, f)) (after_word (codes "elastic ") (decimal (version_number ver)) (decimal n) e)

-- a first line is of one version
pub one_version : (v w : Version) → first_text v ≡ first_text w → v ≡ w
one_version v w e = numbered_once v w (same_number v (version_number w) (number_fits w) e)

-- a text of a version is of no other
pub is_first : (ver : Version) (rest : List ℕ) → IsOtherVersion (first_text ver ++ 10 ∷ rest) → ⊥
is_first ver rest o =
    let cut = cut_unique 10 (first_text ver) rest (version_text o.number) o.more (first_complete ver) (version_complete o.number o.fits) o.whole in
    o.other ver (sym (same_number ver o.number o.fits cut.0))

-- the first two lines and others
abbrev pub opened : Version → List ℕ → List (List ℕ) → List (List ℕ)
opened ver name ls = first_text ver ∷ kernel_text name ∷ ls

abbrev pub bytes_of : Version → List ℕ → List ℕ → List ℕ
bytes_of ver name body = first_text ver ++ 10 ∷ (kernel_text name ++ 10 ∷ body)

two_lines : (v k t rest : List ℕ) → v ++ 10 ∷ (k ++ 10 ∷ (t ++ rest)) ≡ ((v ++ 10 ∷ []) ++ ((k ++ 10 ∷ []) ++ t)) ++ rest
two_lines v k t rest = simp append_assoc refl

opened_whole : (ver : Version) (name body : List ℕ) (ls : List (List ℕ)) (rest : List ℕ) → body ≡ text_of ls ++ rest → bytes_of ver name body ≡ text_of (opened ver name ls) ++ rest
opened_whole ver name body ls rest e = ap (bytes_of ver name) e ∙ two_lines (first_text ver) (kernel_text name) (text_of ls) rest

pub all-cons : {X : Type 0} (P : X → Type 0) (x : X) (xs : List X) → P x → All P xs → All P (x ∷ xs)
all-cons P x xs p h = All-append P (x ∷ []) xs (All_single P x p) h

-- the lines after the first two that were read, and the net so far
pub record Draft (ver : Version) (name body : List ℕ) (stage : Stage) (net : Net) (rest : List ℕ) (number : ℕ) : Type 0 where
  pub ls : List (List ℕ)
  pub complete : All Complete ls
  pub whole : body ≡ text_of ls ++ rest
  pub counted : number ≡ length ls + 3
  pub reached : stage ≡ reach Scalars ls
  pub holds : Holds ver stage net ls
  pub writes : Writes ver net
  pub named : net.name ≡ name

pub draft_start : (ver : Version) (name body : List ℕ) (net : Net) → NameFits name → net.name ≡ name → net.scalars ≡ [] → net.arrays ≡ [] → net.units ≡ [] → net.chans ≡ [] → Draft ver name body Scalars net body 3
draft_start ver name body net fits n s a u c = record {
  ls = [];
  complete = All-nil Complete;
  whole = refl;
  counted = refl;
  reached = refl;
  holds = (sym (ap (map _) s), a, u, c);
  writes = record {
    fits = record { name = subst NameFits (sym n) fits; scalars = subst (All ScalarFits) (sym s) (All-nil ScalarFits); arrays = subst (All ArrayFits) (sym a) (All-nil ArrayFits); units = subst (All UnitFits) (sym u) (All-nil UnitFits); chans = subst (All ChanFits) (sym c) (All-nil ChanFits) };
    written = subst (All (IsWritten ver)) (sym u) (All-nil (IsWritten ver));
  };
  named = n;
}

pub draft_more : (ver : Version) (name body : List ℕ) (s t : Stage) (net new : Net) (rest text after : List ℕ) (n : ℕ) (x : BodyLine)
    → Draft ver name body s net rest n → rest ≡ text ++ 10 ∷ after → Complete text → LineFits ver x → line_text ver x ≡ text → may_stand x s ≡ true
    → t ≡ stage_after x → new ≡ net_with net x → Draft ver name body t new after (n + 1)
draft_more ver name body s t net new rest text after n x d r one fits is stands st nt =
    let next_is : stage_after x ≡ reach Scalars (d.ls ++ text ∷ []) = sym (next_text ver x) ∙ ap next is ∙ sym (reach_more Scalars d.ls text) in
    let held : Holds ver (stage_after x) (net_with net x) (d.ls ++ text ∷ []) = let P : List ℕ → Type 0 = λ l. Holds ver (stage_after x) (net_with net x) (d.ls ++ l ∷ []) in subst P is (holds_with ver s net d.ls x stands d.holds) in
    let more : Draft ver name body (stage_after x) (net_with net x) after (n + 1) = record {
      ls = d.ls ++ text ∷ [];
      complete = All-append Complete d.ls (text ∷ []) d.complete (All_single Complete text one);
      whole = one_line d.ls body rest text after d.whole r;
      counted = omega (arith, d.counted, length-append d.ls (text ∷ []));
      reached = next_is;
      holds = held;
      writes = writes_with ver net x d.writes fits;
      named = name_with net x ∙ d.named;
    } in
    let P : Stage → Type 0 = λ u. Draft ver name body u new after (n + 1) in
    let Q : Net → Type 0 = λ m. Draft ver name body (stage_after x) m after (n + 1) in
    subst P (sym st) (subst Q (sym nt) more)

draft_begins : (ver : Version) (name body : List ℕ) (s : Stage) (net : Net) (rest : List ℕ) (n : ℕ) (d : Draft ver name body s net rest n) → Begins (opened ver name d.ls)
draft_begins ver name body s net rest n d =
    let more = holds_more ver s net d.ls d.holds in
    record { version = ver; net = net; writes = d.writes; more = more.0; whole = ap (λ k. first_text ver ∷ kernel_text k ∷ body_texts ver net) d.named ∙ ap (opened ver name) more.1 }

draft_misplaced : (ver : Version) (name body : List ℕ) (s : Stage) (net : Net) (rest : List ℕ) (n : ℕ) (text : List ℕ) (d : Draft ver name body s net rest n) → (Allowed ver s text → ⊥) → Begins (opened ver name d.ls ++ text ∷ []) → ⊥
draft_misplaced ver name body s net rest n text d none b =
    let P : Stage → Type 0 = λ t. Allowed ver t text in
    let Q : Version → Type 0 = λ v. Allowed v (reach Scalars d.ls) text in
    let same : body_texts b.version b.net ≡ d.ls ++ text ∷ b.more = ap (drop 2) b.whole ∙ append_assoc d.ls (text ∷ []) b.more in
    let at : b.version ≡ ver = one_version b.version ver (ap (λ l. get_or l 0 []) b.whole) in
    none (subst P (sym d.reached) (subst Q at (path_at b.version Scalars d.ls b.more text (subst (Path b.version Scalars) same (body_path b.version b.net b.writes)))))

all_opened : (ver : Version) (name body : List ℕ) (s : Stage) (net : Net) (rest : List ℕ) (n : ℕ) (d : Draft ver name body s net rest n) → NameFits name → All Complete (opened ver name d.ls)
all_opened ver name body s net rest n d fits =
    all-cons Complete (first_text ver) (kernel_text name ∷ d.ls) (first_complete ver) (all-cons Complete (kernel_text name) d.ls (kernel_complete name fits) d.complete)

-- what the answers say
pub says_wrong : (ver : Version) (name body : List ℕ) (s : Stage) (net : Net) (rest text after : List ℕ) (n : ℕ) → NameFits name → Draft ver name body s net rest n
    → rest ≡ text ++ 10 ∷ after → Complete text → (Allowed ver s text → ⊥) → Says (bytes_of ver name body) (Err (refusal.Line n))
says_wrong ver name body s net rest text after n fits d r one none = (
  is_first ver (kernel_text name ++ 10 ∷ body),
  record {
    before = opened ver name d.ls;
    complete = all_opened ver name body s net rest n d fits;
    counted = omega (arith, d.counted);
    rest = rest;
    whole = opened_whole ver name body d.ls rest d.whole;
    wrong = inl (record { text = text; more = after; whole = r; one = one; begins = draft_begins ver name body s net rest n d; misplaced = draft_misplaced ver name body s net rest n text d none });
  },
)

-- no line of this text may stand, where none is read, and where the one that is read may not
pub none_allowed : (ver : Version) (s : Stage) (text : List ℕ) → ((x : BodyLine) → LineFits ver x → line_text ver x ≡ text → ⊥) → Allowed ver s text → ⊥
none_allowed ver s text none a = none a.value a.fits a.text

pub not_allowed : (ver : Version) (s : Stage) (text : List ℕ) (x : BodyLine) → line_text ver x ≡ text → may_stand x s ≡ false → Allowed ver s text → ⊥
not_allowed ver s text x is not a = false≢true (sym not ∙ may_same ver x a.value s (is ∙ sym a.text) ∙ a.stands)

draft_spells : (ver : Version) (name body : List ℕ) (net : Net) (rest : List ℕ) (n : ℕ) (d : Draft ver name body Ended net rest n) → texts ver net ≡ opened ver name d.ls
draft_spells ver name body net rest n d = ap (λ k. first_text ver ∷ kernel_text k ∷ body_texts ver net) d.named ∙ ap (opened ver name) (sym (body_whole ver net) ∙ sym d.holds)

pub says_after : (ver : Version) (name body : List ℕ) (net : Net) (rest : List ℕ) (n : ℕ) → NameFits name → Draft ver name body Ended net rest n → 0 < length rest → Says (bytes_of ver name body) (Err (refusal.Line n))
says_after ver name body net rest n fits d some = (
  is_first ver (kernel_text name ++ 10 ∷ body),
  record {
    before = opened ver name d.ls;
    complete = all_opened ver name body Ended net rest n d fits;
    counted = omega (arith, d.counted);
    rest = rest;
    whole = opened_whole ver name body d.ls rest d.whole;
    wrong = inr (record { version = ver; net = net; writes = d.writes; whole = draft_spells ver name body net rest n d }, some);
  },
)

said_text : (ver : Version) (net : Net) (bytes : List ℕ) → Writes ver net → bytes ≡ net_text ver net → NetText net bytes ⊎ OldText net bytes
said_text One net bytes w e = inr (record { unmarked = w.written; text = e })
said_text Two net bytes w e = inl e

pub says_net : (ver : Version) (name body : List ℕ) (net : Net) (rest : List ℕ) (n : ℕ) → Draft ver name body Ended net rest n → rest ≡ [] → Says (bytes_of ver name body) (Ok net)
says_net ver name body net rest n d none = (
  d.writes.fits,
  said_text ver net (bytes_of ver name body) d.writes
      (opened_whole ver name body d.ls rest d.whole ∙ ap (λ r. text_of (opened ver name d.ls) ++ r) none ∙ append-nil (text_of (opened ver name d.ls)) ∙ ap text_of (sym (draft_spells ver name body net rest n d)) ∙ text_is ver net),
)

pub body_reaches : (ver : Version) (net : Net) → reach Scalars (body_texts ver net) ≡ Ended
body_reaches ver net = ap (reach Scalars) (sym (body_whole ver net)) ∙ reach_more Scalars (to_chans ver net) (codes "end")

pub says_short : (ver : Version) (name body : List ℕ) (s : Stage) (net : Net) (rest : List ℕ) (n : ℕ) → NameFits name → Draft ver name body s net rest n → s ≢ Ended → Complete rest → Says (bytes_of ver name body) (Err refusal.Ends)
says_short ver name body s net rest n fits d other incomplete = record {
  before = opened ver name d.ls;
  complete = all_opened ver name body s net rest n d fits;
  rest = rest;
  whole = opened_whole ver name body d.ls rest d.whole;
  incomplete = incomplete;
  begins = draft_begins ver name body s net rest n d;
  unended = λ w. other (d.reached ∙ ap (reach Scalars) (sym (ap (drop 2) w.whole)) ∙ body_reaches w.version w.net);
}

-- a net whose lines begin all texts that have come no further than its first line
blank : Net
blank = record { name = codes "a"; scalars = []; arrays = []; result = None; units = []; chans = [] }

blank_fits : NetFits blank
unfolding blank
blank_fits = record { name = refl; scalars = All-nil ScalarFits; arrays = All-nil ArrayFits; units = All-nil UnitFits; chans = All-nil ChanFits }

blank_written : (ver : Version) → Writes ver blank
unfolding blank
blank_written ver = record { fits = blank_fits; written = All-nil (IsWritten ver) }

begins_none : Begins []
begins_none = record { version = Two; net = blank; writes = blank_written Two; more = texts Two blank; whole = refl }

begins_version : (ver : Version) → Begins (first_text ver ∷ [])
begins_version ver = record { version = ver; net = blank; writes = blank_written ver; more = drop 1 (texts ver blank); whole = refl }

-- the answers of the first two lines
pub says_no_first : (bytes : List ℕ) → Complete bytes → Says bytes (Err refusal.Ends)
says_no_first bytes h = record { before = []; complete = All-nil Complete; rest = bytes; whole = refl; incomplete = h; begins = begins_none; unended = λ w. omega (arith, ap length w.whole) }

pub says_first : (bytes text rest : List ℕ) → bytes ≡ text ++ 10 ∷ rest → Complete text → ((n : ℕ) → IsNumbered n → version_text n ≡ text → ⊥) → Says bytes (Err (refusal.Line 1))
says_first bytes text rest e one none = (
  λ o. none o.number o.fits (sym (cut_unique 10 text rest (version_text o.number) o.more one (version_complete o.number o.fits) (sym e ∙ o.whole)).0),
  record {
    before = [];
    complete = All-nil Complete;
    counted = refl;
    rest = bytes;
    whole = refl;
    wrong = inl (record { text = text; more = rest; whole = e; one = one; begins = begins_none; misplaced = λ b. none (version_number b.version) (number_fits b.version) (ap (λ l. get_or l 0 []) b.whole) });
  },
)

pub says_version : (bytes text rest : List ℕ) (n : ℕ) → bytes ≡ text ++ 10 ∷ rest → IsNumbered n × (version_text n ≡ text) → ((v : Version) → n ≢ version_number v) → Says bytes (Err refusal.Version)
says_version bytes text rest n e r other = record { number = n; fits = r.0; other = other; more = rest; whole = e ∙ ap (λ l. l ++ 10 ∷ rest) (sym r.1) }

pub says_on : {R : Type 0} (says : List ℕ → R → Type 0) (ver : Version) (bytes text rest : List ℕ) (n : ℕ) (r : R) → bytes ≡ text ++ 10 ∷ rest → version_text n ≡ text → version_number ver ≡ n → says (first_text ver ++ 10 ∷ rest) r → says bytes r
says_on says ver bytes text rest n r e is same h =
    let P : List ℕ → Type 0 = λ l. says l r in
    subst P (sym (e ∙ ap (λ l. l ++ 10 ∷ rest) (sym is ∙ ap version_text (sym same)))) h

version_line : (ver : Version) (text : List ℕ) → first_text ver ++ 10 ∷ text ≡ text_of (first_text ver ∷ []) ++ text
version_line ver text = sym (append_assoc (first_text ver) (10 ∷ []) text) ∙ ap (λ l. l ++ text) (sym (append-nil (first_text ver ++ 10 ∷ [])))

pub says_no_second : (ver : Version) (text : List ℕ) → Complete text → Says (first_text ver ++ 10 ∷ text) (Err refusal.Ends)
says_no_second ver text h = record {
  before = first_text ver ∷ [];
  complete = All_single Complete (first_text ver) (first_complete ver);
  rest = text;
  whole = version_line ver text;
  incomplete = h;
  begins = begins_version ver;
  unended = λ w. omega (arith, ap length w.whole);
}

pub says_second : (ver : Version) (bytes text rest : List ℕ) → bytes ≡ text ++ 10 ∷ rest → Complete text → ((name : List ℕ) → NameFits name → kernel_text name ≡ text → ⊥) → Says (first_text ver ++ 10 ∷ bytes) (Err (refusal.Line 2))
says_second ver bytes text rest e one none = (
  is_first ver bytes,
  record {
    before = first_text ver ∷ [];
    complete = All_single Complete (first_text ver) (first_complete ver);
    counted = refl;
    rest = bytes;
    whole = version_line ver bytes;
    wrong = inl (record { text = text; more = rest; whole = e; one = one; begins = begins_version ver; misplaced = λ b. none b.net.name b.writes.fits.name (ap (λ l. get_or l 1 []) b.whole) });
  },
)

-- what is left where a text ends, and where its last stage is not the last
pub none_left : (xs : List ℕ) → true ≡ (length xs == 0) → xs ≡ []
none_left [] e = refl
none_left (x ∷ xs) e = absurd (false≢true (sym (ne_eqb (length (x ∷ xs)) 0 (λ z. omega (arith, z))) ∙ sym e))

pub some_left : (xs : List ℕ) → false ≡ (length xs == 0) → 0 < length xs
some_left [] e = absurd (false≢true (e ∙ eq-eqb 0 0 refl))
some_left (x ∷ xs) e = omega arith

abbrev is_ended : Stage → Bool
is_ended Scalars = false
is_ended Arrays = false
is_ended Units = false
is_ended Chans = false
is_ended Ended = true

pub not_ended : (s : Stage) → (s ≡ Scalars) ⊎ ((s ≡ Arrays) ⊎ ((s ≡ Units) ⊎ (s ≡ Chans))) → s ≢ Ended
not_ended s (inl e) x = false≢true (sym (ap is_ended e) ∙ ap is_ended x)
not_ended s (inr (inl e)) x = false≢true (sym (ap is_ended e) ∙ ap is_ended x)
not_ended s (inr (inr (inl e))) x = false≢true (sym (ap is_ended e) ∙ ap is_ended x)
not_ended s (inr (inr (inr e))) x = false≢true (sym (ap is_ended e) ∙ ap is_ended x)

pub draft_at : (ver : Version) (name body : List ℕ) (s t : Stage) (net : Net) (rest : List ℕ) (n : ℕ) → s ≡ t → Draft ver name body s net rest n → Draft ver name body t net rest n
draft_at ver name body s t net rest n e d = let P : Stage → Type 0 = λ u. Draft ver name body u net rest n in subst P e d
