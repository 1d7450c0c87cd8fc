use Rattle.script_lang.proofs.Sharing.{refused_as_asked, admitted_is_asked, standing_is_asked}
use Rattle.script_lang.proofs.command_laws.decisions_stand_for_asked.Goals as goal

pub returns-clause-refused : goal.returns-clause-refused
returns-clause-refused c = refused_as_asked

pub returns-clause-admitted : goal.returns-clause-admitted
returns-clause-admitted c = admitted_is_asked

pub returns-clause-standing : goal.returns-clause-standing
returns-clause-standing c = λ model decisions decision asked lawful settled stands there. standing_is_asked model decisions lawful settled decision asked stands there
