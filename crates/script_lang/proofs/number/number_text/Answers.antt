use Rattle.std.proofs.lemmas.Str.{IsUtf8-from_ascii}
use Rattle.std.proofs.lemmas.Str.Ascii.{IsAscii-from_all}
use Rattle.script_lang.proofs.Ascii.{number_is_ascii}
use Rattle.script_lang.proofs.number.number_text.Goals as goal

pub unreachable-requires : goal.unreachable-requires
unreachable-requires c = c.in-Err.ensures.cases.0 (IsUtf8-from_ascii c.args.number.now (IsAscii-from_all c.args.number.now (number_is_ascii c.args.number.now c.requires)))
