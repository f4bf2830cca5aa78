-- The program of tokens whose numbers lie in the ranges of their types is a program of a text.
use Rattle.std.proofs.Common.{List, [], ◌∷◌, ◌++◌, All}
use Rattle.std.proofs.lemmas.List.Elements.{All-nil, All-cons}
use Rattle.c_ast.specs.declared.token.Token.{Token}
use Rattle.c_ast.specs.declared.key.Key.TheVariants as key
use Rattle.c_ast.specs.declared.mark.Mark.TheVariants as mark
use Rattle.c_ast.specs.declared.tree.Helper.{Helper}
use Rattle.c_ast.specs.declared.tree.Program.{Program}
use Rattle.c_ast.specs.Constants.{NumberFits}
use Rattle.c_ast.specs.Derives.{marked, keyed, named, between}
use Rattle.c_ast.specs.OfTexts.{IsHelperOfText, IsProgramOfText}
use Rattle.c_ast.specs.ProgramTexts.{block_tokens, DerivesHelper, DerivesHelpers, DerivesProgram}
use Rattle.c_parse.proofs.EachToken.{each_of, each_front, each_back}
use Rattle.c_parse.proofs.Fitting.{AreFitting, expr_fits, items_fit, tree_fits_each}
use Rattle.c_parse.proofs.NoReturns.{IsFree, items_stay}

helper_fits : (ts : List Token) (h : Helper) → DerivesHelper ts h → AreFitting ts → IsHelperOfText h
helper_fits ts h (DerivesHelper.helper rs ps us ws x f s a z b r e y t params body v result inside scalars items free value) fits =
    let tail : List Token = ws ++ marked mark.Semicolon e ∷ [] in
    let block : List Token = block_tokens b us r ws e y in
    let behind = each_back NumberFits rs (named x s ∷ (between mark.Open a ps mark.Close z ++ block)) fits.1 in
    let braces = each_back NumberFits (between mark.Open a ps mark.Close z) block behind.1 in
    let held : AreFitting (us ++ keyed key.Return r ∷ tail) = each_front NumberFits (us ++ keyed key.Return r ∷ tail) (marked mark.CloseBrace y ∷ []) braces.1 in
    record {
      scalars = scalars;
      returns_nothing = items_stay us body items (each_of IsFree us free);
      body_fits = items_fit us body items (each_front NumberFits us (keyed key.Return r ∷ tail) held);
      value_fits = expr_fits 0 ws v value (each_front NumberFits ws (marked mark.Semicolon e ∷ []) (each_back NumberFits us (keyed key.Return r ∷ tail) held).1);
    }

helpers_fit : (ts : List Token) (hs : List Helper) → DerivesHelpers ts hs → AreFitting ts → All IsHelperOfText hs
helpers_fit ts hs DerivesHelpers.no_more fits = All-nil IsHelperOfText
helpers_fit ts hs (DerivesHelpers.one_more us ws h more d ds) fits =
    All-cons IsHelperOfText h more (helper_fits us h d (each_front NumberFits us ws fits)) (helpers_fit ws more ds (each_back NumberFits us ws fits))

program_fits_each : (ts : List Token) (p : Program) → DerivesProgram ts p → AreFitting ts → IsProgramOfText p
program_fits_each ts p (DerivesProgram.program us ws hs tree ds d) fits =
    record { helpers = helpers_fit us hs ds (each_front NumberFits us ws fits); kernel = tree_fits_each ws tree d (each_back NumberFits us ws fits) }

pub program_fits : (ts : List Token) (p : Program) → DerivesProgram ts p → All NumberFits ts → IsProgramOfText p
program_fits ts p d h = program_fits_each ts p d (each_of NumberFits ts h)
