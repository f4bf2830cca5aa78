-- Items that are taken one by one.
use Rattle.std.proofs.Common.{◌≡◌, ℕ, ◌+◌, ◌<◌, List, [], ◌∷◌, ◌++◌, length, take, get_or, refl, sym, ◌∙◌, ap}
use Rattle.std.specs.Prelude.{Bool, true, false, if◌then◌else◌}
use Rattle.std.proofs.lemmas.List.{take_more, map-append}
use Rattle.command_words.specs.declared.choice.Choice.{Choice}
use Rattle.command_words.specs.declared.items.Written.{Written}
use Rattle.command_words.specs.Tables.{Text, is_choice}
use Rattle.command_words.specs.Items.{Item, plain, option, given, plain_words, item_of, items_of}

pub items_more : (i : ℕ) (ws : List Written) (w : Written) → i < length ws → w ≡ get_or ws i w
    → items_of (take (i + 1) ws) ≡ items_of (take i ws) ++ item_of w ∷ []
items_more i ws w within is =
    ap items_of (take_more ws i w within ∙ ap (λ x. take i ws ++ x ∷ []) (sym is)) ∙ map-append item_of (take i ws) (w ∷ [])

chosen-append : (b : Bool) (v : Text) (xs ys : List Text) → (if b then v ∷ (xs ++ ys) else xs ++ ys) ≡ (if b then v ∷ xs else xs) ++ ys
chosen-append true v xs ys = refl
chosen-append false v xs ys = refl

given-append : (o : Choice) (is js : List Item) → given o (is ++ js) ≡ given o is ++ given o js
given-append o [] js = refl
given-append o (plain w ∷ is) js = given-append o is js
given-append o (option p v ∷ is) js =
    ap (λ x. if is_choice o p then v ∷ x else x) (given-append o is js) ∙ chosen-append (is_choice o p) v (given o is) (given o js)

pub given_more : (o : Choice) (i : ℕ) (ws : List Written) (w : Written) → i < length ws → w ≡ get_or ws i w
    → given o (items_of (take (i + 1) ws)) ≡ given o (items_of (take i ws)) ++ given o (item_of w ∷ [])
given_more o i ws w within is = ap (given o) (items_more i ws w within is) ∙ given-append o (items_of (take i ws)) (item_of w ∷ [])

plain_words-append : (is js : List Item) → plain_words (is ++ js) ≡ plain_words is ++ plain_words js
plain_words-append [] js = refl
plain_words-append (plain w ∷ is) js = ap (λ x. w ∷ x) (plain_words-append is js)
plain_words-append (option o v ∷ is) js = plain_words-append is js

pub plain_more : (i : ℕ) (ws : List Written) (w : Written) → i < length ws → w ≡ get_or ws i w
    → plain_words (items_of (take (i + 1) ws)) ≡ plain_words (items_of (take i ws)) ++ plain_words (item_of w ∷ [])
plain_more i ws w within is = ap plain_words (items_more i ws w within is) ∙ plain_words-append (items_of (take i ws)) (item_of w ∷ [])
