-- Words spell one command at most.
use Rattle.std.proofs.Common.{◌≡◌, ℕ, suc, List, [], ◌∷◌, refl, sym, ◌∙◌, ap, subst, arith}
use Rattle.std.specs.Prelude.{Bool, Option, Some, None, find}
use Rattle.std.specs.Str.{bytes_eq}
use Rattle.command_words.specs.declared.verb.Verb.{Verb}
use Rattle.command_words.specs.declared.verb.Verb.TheVariants.{Compile, Go, Run, Replay, Bench, Upgrade, Ref, Save, Resume}
use Rattle.command_words.specs.declared.verb.PlainKind.{PlainKind}
use Rattle.command_words.specs.declared.verb.PlainKind.TheVariants.{File, Seed}
use Rattle.command_words.specs.declared.choice.Choice.TheVariants.{Delay, Slots, Depth, Workers, Limit, Turns, At, Count, Cycles, Log, Forward, Wrap}
use Rattle.command_words.specs.declared.choice.ValueKind.{ValueKind}
use Rattle.command_words.specs.declared.choice.ValueKind.TheVariants.{Flag, Number, Delays}
use Rattle.command_words.specs.declared.command.Chosen.{Chosen}
use Rattle.command_words.specs.Tables.{Text, plain_of, verb_word, kind_of}
use Rattle.command_words.specs.Values.{IsNumber, AreDelays}
use Rattle.command_words.specs.Items.{Item, AreWritten, given}
use Rattle.command_words.specs.Commands.{ArePlain, AreWordsOf, Asked, IsSeed, IsValue, IsFlag, AreChosen, ItemsSpell, Command}
use Rattle.command_words.proofs.Fronts.{written_once}
use Rattle.command_words.proofs.DelayLemmas.{delays_once}

abbrev verb_named : Text → Option Verb
verb_named w = find (λ v. bytes_eq (verb_word v) w) (Compile ∷ Go ∷ Run ∷ Replay ∷ Bench ∷ Upgrade ∷ Ref ∷ Save ∷ Resume ∷ [])

verb_named-word : (v : Verb) → verb_named (verb_word v) ≡ Some v
verb_named-word Compile = refl
verb_named-word Go = refl
verb_named-word Run = refl
verb_named-word Replay = refl
verb_named-word Bench = refl
verb_named-word Upgrade = refl
verb_named-word Ref = refl
verb_named-word Save = refl
verb_named-word Resume = refl

pub one_verb : (v u : Verb) → verb_word v ≡ verb_word u → v ≡ u
one_verb v u e = let f : ◌≡◌ {A = Option Verb} (Some v) (Some u) = sym (verb_named-word v) ∙ ap verb_named e ∙ verb_named-word u in cc

number_once : (k : ValueKind) (text : Text) (n m : ℕ) → IsNumber k text n → IsNumber k text m → n ≡ m
number_once Flag text n m x y = absurd x
number_once (Number low high) text n m x y = x.0.value ∙ sym y.0.value
number_once Delays text n m x y = absurd x

value_once : {V : Type 0} (Reads : Text → V → Type 0) → ((t : Text) (v w : V) → Reads t v → Reads t w → v ≡ w) → (ts : List Text) (a b : Option V)
    → IsValue Reads ts a → IsValue Reads ts b → a ≡ b
value_once Reads one [] None None x y = refl
value_once Reads one [] None (Some w) x y = absurd y
value_once Reads one [] (Some v) b x y = absurd x
value_once Reads one (t ∷ []) None b x y = absurd x
value_once Reads one (t ∷ []) (Some v) None x y = absurd y
value_once Reads one (t ∷ []) (Some v) (Some w) x y = ap Some (one t v w x y)
value_once Reads one (t ∷ u ∷ ts) a b x y = absurd x

flag_once : (ts : List Text) (a b : Bool) → IsFlag ts a → IsFlag ts b → a ≡ b
flag_once [] a b x y = x ∙ sym y
flag_once (t ∷ []) a b x y = x ∙ sym y
flag_once (t ∷ u ∷ ts) a b x y = absurd x

-- values with equal parts
same_chosen : (a b : Chosen) → a.seed ≡ b.seed → a.delay ≡ b.delay → a.slots ≡ b.slots → a.depth ≡ b.depth → a.workers ≡ b.workers → a.limit ≡ b.limit → a.turns ≡ b.turns → a.at ≡ b.at
    → a.count ≡ b.count → a.cycles ≡ b.cycles → a.log ≡ b.log → a.forward ≡ b.forward → a.wrap ≡ b.wrap → a ≡ b
same_chosen a b seed delay slots depth workers limit turns at count cycles log forward wrap =
    ap (λ x. record a { seed = x }) seed
    ∙ ap (λ x. record a { seed = b.seed; delay = x }) delay
    ∙ ap (λ x. record a { seed = b.seed; delay = b.delay; slots = x }) slots
    ∙ ap (λ x. record a { seed = b.seed; delay = b.delay; slots = b.slots; depth = x }) depth
    ∙ ap (λ x. record a { seed = b.seed; delay = b.delay; slots = b.slots; depth = b.depth; workers = x }) workers
    ∙ ap (λ x. record a { seed = b.seed; delay = b.delay; slots = b.slots; depth = b.depth; workers = b.workers; limit = x }) limit
    ∙ ap (λ x. record a { seed = b.seed; delay = b.delay; slots = b.slots; depth = b.depth; workers = b.workers; limit = b.limit; turns = x }) turns
    ∙ ap (λ x. record b { at = x; count = a.count; cycles = a.cycles; log = a.log; forward = a.forward; wrap = a.wrap }) at
    ∙ ap (λ x. record b { count = x; cycles = a.cycles; log = a.log; forward = a.forward; wrap = a.wrap }) count
    ∙ ap (λ x. record b { cycles = x; log = a.log; forward = a.forward; wrap = a.wrap }) cycles
    ∙ ap (λ x. record b { log = x; forward = a.forward; wrap = a.wrap }) log
    ∙ ap (λ x. record b { forward = x; wrap = a.wrap }) forward
    ∙ ap (λ x. record b { wrap = x }) wrap

pub chosen_once : (is : List Item) (a b : Chosen) → a.seed ≡ b.seed → AreChosen is a → AreChosen is b → a ≡ b
chosen_once is a b seed x y =
    let delay : a.delay ≡ b.delay = value_once AreDelays delays_once (given Delay is) a.delay b.delay x.delay y.delay in
    let slots : a.slots ≡ b.slots = value_once _ (number_once (kind_of Slots)) (given Slots is) a.slots b.slots x.slots y.slots in
    let depth : a.depth ≡ b.depth = value_once _ (number_once (kind_of Depth)) (given Depth is) a.depth b.depth x.depth y.depth in
    let workers : a.workers ≡ b.workers = value_once _ (number_once (kind_of Workers)) (given Workers is) a.workers b.workers x.workers y.workers in
    let limit : a.limit ≡ b.limit = value_once _ (number_once (kind_of Limit)) (given Limit is) a.limit b.limit x.limit y.limit in
    let turns : a.turns ≡ b.turns = value_once _ (number_once (kind_of Turns)) (given Turns is) a.turns b.turns x.turns y.turns in
    let at : a.at ≡ b.at = value_once _ (number_once (kind_of At)) (given At is) a.at b.at x.at y.at in
    let count : a.count ≡ b.count = flag_once (given Count is) a.count b.count x.count y.count in
    let cycles : a.cycles ≡ b.cycles = flag_once (given Cycles is) a.cycles b.cycles x.cycles y.cycles in
    let log : a.log ≡ b.log = flag_once (given Log is) a.log b.log x.log y.log in
    let forward : a.forward ≡ b.forward = flag_once (given Forward is) a.forward b.forward x.forward y.forward in
    let wrap : a.wrap ≡ b.wrap = flag_once (given Wrap is) a.wrap b.wrap x.wrap y.wrap in
    same_chosen a b seed delay slots depth workers limit turns at count cycles log forward wrap

-- what holds of plain words holds of those after the first
pub plain_rest : (kind : PlainKind) (kinds : List PlainKind) (w : Text) (ws : List Text) → ArePlain (kind ∷ kinds) (w ∷ ws) → ArePlain kinds ws
plain_rest kind kinds w ws are = record { count = omega (arith, are.count); each = λ i within. are.each (suc i) (omega (arith, within)) }

-- the plain words have one seed
seed_once : (kinds : List PlainKind) (ws : List Text) (a b : Option ℕ) → IsSeed kinds ws a → IsSeed kinds ws b → a ≡ b
seed_once [] ws a b x y = x ∙ sym y
seed_once (File limit ∷ kinds) [] a b x y = x ∙ sym y
seed_once (File limit ∷ kinds) (w ∷ ws) a b x y = seed_once kinds ws a b x y
seed_once (Seed ∷ kinds) [] a b x y = x ∙ sym y
seed_once (Seed ∷ kinds) (w ∷ ws) a b x y = x.2 ∙ ap Some (x.1.value ∙ sym y.1.value) ∙ sym y.2

-- so do those of one command
pub one_seed : (v u : Verb) (ps qs : List Text) (a b : Option ℕ) → v ≡ u → ps ≡ qs → IsSeed (plain_of v) ps a → IsSeed (plain_of u) qs b → a ≡ b
one_seed v u ps qs a b same words x y =
    seed_once (plain_of u) qs a b (subst (λ ws. IsSeed (plain_of u) ws a) words (subst (λ w. IsSeed (plain_of w) ps a) same x)) y

-- what is read of the words is what they spell
pub record IsReadOf (verb : Verb) (is : List Item) (c : Asked) : Type 0 where
  pub same : c.verb ≡ verb
  pub spelled : ItemsSpell is c

pub read_of : (ws rest : List Text) (w : Text) (verb : Verb) (is : List Item) (c : Asked) → ws ≡ w ∷ rest → ((v : Verb) → verb_word v ≡ w → v ≡ verb)
    → AreWritten verb is rest → Command ws c → IsReadOf verb is c
read_of ws rest w verb is c split one written command =
    let first : ws ≡ verb_word c.verb ∷ command.written.rest = command.written.first in
    let word : verb_word c.verb ≡ w = cc in
    let after : command.written.rest ≡ rest = cc in
    let same : c.verb ≡ verb = one c.verb word in
    let own : AreWritten verb command.items rest = subst (λ v. AreWritten v command.items rest) same (subst (AreWritten c.verb command.items) after command.written.after) in
    record { same = same; spelled = subst (λ items. ItemsSpell items c) (written_once verb command.items is rest own written) command.spelled }

-- a command that the words spell is one of the items that they are
pub spelled_by : (ws : List Text) (verb : Verb) (is : List Item) (c : Asked) → AreWordsOf verb is ws → Command ws c → IsReadOf verb is c
spelled_by ws verb is c words command =
    read_of ws words.rest (verb_word verb) verb is c words.first (λ v e. one_verb v verb e) words.after command

same_asked : (c d : Asked) → c.verb ≡ d.verb → c.plain ≡ d.plain → c.chosen ≡ d.chosen → c ≡ d
same_asked c d verb plain chosen =
    ap (λ x. record c { verb = x }) verb ∙ ap (λ x. record d { plain = x; chosen = c.chosen }) plain ∙ ap (λ x. record d { chosen = x }) chosen

pub command_once : (ws : List Text) (c d : Asked) → Command ws c → Command ws d → c ≡ d
command_once ws c d x y =
    let read = spelled_by ws d.verb y.items c y.written x in
    let plain : c.plain ≡ d.plain = sym read.spelled.words ∙ y.spelled.words in
    let seed : c.chosen.seed ≡ d.chosen.seed =
    one_seed c.verb d.verb c.plain d.plain c.chosen.seed d.chosen.seed read.same plain read.spelled.seed y.spelled.seed in
    let chosen : c.chosen ≡ d.chosen = chosen_once y.items c.chosen d.chosen seed read.spelled.chosen y.spelled.chosen in
    same_asked c d read.same plain chosen
