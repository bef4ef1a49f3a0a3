-- What an answer says, in the words of the definition of lines.
use Rattle.judge_session.specs.Request as words
use Rattle.judge_session.specs.declared.types.Request.{Request}
use Rattle.judge_session.specs.declared.types.Request.TheVariants.{Judge, Undo, Redo, Table, Pair, Certify, Pool, Next, Qrels, Quit}
use Rattle.judge_session.specs.declared.types.Heard.{Heard}
use Rattle.judge_session.specs.declared.types.Heard.TheVariants.{Blank, TooLong, Bad, Asked}

-- the request with the bytes of its names
abbrev pub request_said : Request → words.Request
request_said (Judge who topic doc grade) = words.Judge who.now topic.now doc.now grade
request_said (Undo who) = words.Undo who.now
request_said (Redo who) = words.Redo who.now
request_said Table = words.Table
request_said (Pair first second) = words.Pair first.now second.now
request_said (Certify first second) = words.Certify first.now second.now
request_said (Pool topic depth) = words.Pool topic.now depth
request_said Next = words.Next
request_said Qrels = words.Qrels
request_said Quit = words.Quit

abbrev pub heard_said : Heard → words.Heard
heard_said Blank = words.Blank
heard_said TooLong = words.TooLong
heard_said Bad = words.Bad
heard_said (Asked request) = words.Asked (request_said request)
