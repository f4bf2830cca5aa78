-- How reserved words and punctuators are spelled (ISO/IEC 9899:1999 6.4.1, 7.18.1.1 and 6.4.6).
use Rattle.std.specs.Prelude.{ℕ, List, [], ◌∷◌, ◌++◌, Contains, codes}
use Rattle.c_ast.specs.declared.key.Key.{Key}
use Rattle.c_ast.specs.declared.key.Key.TheVariants as key
use Rattle.c_ast.specs.declared.mark.Mark.{Mark}
use Rattle.c_ast.specs.declared.mark.Mark.TheVariants as mark

-- the keywords of C99, in the standard's order
abbrev pub c99_keywords : List (List ℕ)
c99_keywords = codes "auto" ∷ codes "break" ∷ codes "case" ∷ codes "char" ∷ codes "const" ∷ codes "continue" ∷ codes "default" ∷ codes "do" ∷ codes "double" ∷ codes "else" ∷ codes "enum" ∷ codes "extern" ∷ codes "float" ∷ codes "for" ∷ codes "goto" ∷ codes "if" ∷ codes "inline" ∷ codes "int" ∷ codes "long" ∷ codes "register" ∷ codes "restrict" ∷ codes "return" ∷ codes "short" ∷ codes "signed" ∷ codes "sizeof" ∷ codes "static" ∷ codes "struct" ∷ codes "switch" ∷ codes "typedef" ∷ codes "union" ∷ codes "unsigned" ∷ codes "void" ∷ codes "volatile" ∷ codes "while" ∷ codes "_Bool" ∷ codes "_Complex" ∷ codes "_Imaginary" ∷ []

-- the integer types of exact width, signed ones first
abbrev pub fixed_width_names : List (List ℕ)
fixed_width_names = codes "int8_t" ∷ codes "int16_t" ∷ codes "int32_t" ∷ codes "int64_t" ∷ codes "uint8_t" ∷ codes "uint16_t" ∷ codes "uint32_t" ∷ codes "uint64_t" ∷ []

-- a word that cannot be a name: a keyword of C99 or a type of exact width
unfoldable pub IsReserved : List ℕ → Type 0
IsReserved word = Contains (c99_keywords ++ fixed_width_names) word

-- the spelling of a reserved word
abbrev pub key_text : Key → List ℕ
key_text key.Auto = codes "auto"
key_text key.Break = codes "break"
key_text key.Case = codes "case"
key_text key.Char = codes "char"
key_text key.Const = codes "const"
key_text key.Continue = codes "continue"
key_text key.Default = codes "default"
key_text key.Do = codes "do"
key_text key.Double = codes "double"
key_text key.Else = codes "else"
key_text key.Enum = codes "enum"
key_text key.Extern = codes "extern"
key_text key.Float = codes "float"
key_text key.For = codes "for"
key_text key.Goto = codes "goto"
key_text key.If = codes "if"
key_text key.Inline = codes "inline"
key_text key.Int = codes "int"
key_text key.Long = codes "long"
key_text key.Register = codes "register"
key_text key.Restrict = codes "restrict"
key_text key.Return = codes "return"
key_text key.Short = codes "short"
key_text key.Signed = codes "signed"
key_text key.Sizeof = codes "sizeof"
key_text key.Static = codes "static"
key_text key.Struct = codes "struct"
key_text key.Switch = codes "switch"
key_text key.Typedef = codes "typedef"
key_text key.Union = codes "union"
key_text key.Unsigned = codes "unsigned"
key_text key.Void = codes "void"
key_text key.Volatile = codes "volatile"
key_text key.While = codes "while"
key_text key.Bool = codes "_Bool"
key_text key.Complex = codes "_Complex"
key_text key.Imaginary = codes "_Imaginary"
key_text key.Int8 = codes "int8_t"
key_text key.Int16 = codes "int16_t"
key_text key.Int32 = codes "int32_t"
key_text key.Int64 = codes "int64_t"
key_text key.Uint8 = codes "uint8_t"
key_text key.Uint16 = codes "uint16_t"
key_text key.Uint32 = codes "uint32_t"
key_text key.Uint64 = codes "uint64_t"

-- the spelling of a punctuator
abbrev pub mark_text : Mark → List ℕ
mark_text mark.ShlAssign = codes "<<="
mark_text mark.ShrAssign = codes ">>="
mark_text mark.Increment = codes "++"
mark_text mark.Decrement = codes "--"
mark_text mark.AddAssign = codes "+="
mark_text mark.SubAssign = codes "-="
mark_text mark.MulAssign = codes "*="
mark_text mark.DivAssign = codes "/="
mark_text mark.RemAssign = codes "%="
mark_text mark.AndAssign = codes "&="
mark_text mark.OrAssign = codes "|="
mark_text mark.XorAssign = codes "^="
mark_text mark.Shl = codes "<<"
mark_text mark.Shr = codes ">>"
mark_text mark.LessEqual = codes "<="
mark_text mark.GreaterEqual = codes ">="
mark_text mark.EqualEqual = codes "=="
mark_text mark.NotEqual = codes "!="
mark_text mark.AndAnd = codes "&&"
mark_text mark.OrOr = codes "||"
mark_text mark.Plus = codes "+"
mark_text mark.Minus = codes "-"
mark_text mark.Star = codes "*"
mark_text mark.Slash = codes "/"
mark_text mark.Percent = codes "%"
mark_text mark.Ampersand = codes "&"
mark_text mark.Bar = codes "|"
mark_text mark.Caret = codes "^"
mark_text mark.Tilde = codes "~"
mark_text mark.Bang = codes "!"
mark_text mark.Less = codes "<"
mark_text mark.Greater = codes ">"
mark_text mark.Assign = codes "="
mark_text mark.Question = codes "?"
mark_text mark.Colon = codes ":"
mark_text mark.Semicolon = codes ";"
mark_text mark.Comma = codes ","
mark_text mark.Open = codes "("
mark_text mark.Close = codes ")"
mark_text mark.OpenBracket = codes "["
mark_text mark.CloseBracket = codes "]"
mark_text mark.OpenBrace = codes "{"
mark_text mark.CloseBrace = codes "}"
