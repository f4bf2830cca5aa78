-- A token that was taken from a ring and is held back.
use Rattle.std.specs.Prelude.{◌-◌, List, [], ◌∷◌, length, take, Option, Some, None}
use Rattle.elastic_link.specs.declared.message.Token.{Token}

-- none or one token
abbrev pub tokens_of : Option Token → List Token
tokens_of None = []
tokens_of (Some t) = t ∷ []

-- the items of the ring but for the one that is held
abbrev pub without_held : Option Token → List Token → List Token
without_held None items = items
without_held (Some t) items = take (length items - 1) items
