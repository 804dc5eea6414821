-- The JSON lines of a table of calls, without their newlines.
use Rattle.std.specs.Prelude.{ℕ, List, ◌++◌, codes}
use Rattle.std.specs.Fmt.{decimal}
use Rattle.giop_msg.specs.declared.messages.request.Request.{Request}
use Rattle.giop_msg.specs.Messages.Reply.{status_of}
use Rattle.giop_calls.specs.declared.server.entry.ServerEntry.{ServerEntry}
use Rattle.giop_calls.specs.declared.server.entry.ServerEntry.TheVariants as server
use Rattle.giop_lines.specs.JsonLines.{request_fault_json, text_json}
use Rattle.giop_call_lines.specs.TableLines.{here_text}

-- a Request and its ins, which are a JSON list, as members
unfoldable pub asked_json : Request → List ℕ → List ℕ
asked_json request ins =
    codes "\"operation\":" ++ (text_json request.head.operation ++ (codes ",\"ins\":" ++ ins))

-- what is stored at a server, with the text of the ins of a Request: what it is, and the members
-- behind that
abbrev pub entry_json : ServerEntry → List ℕ → List ℕ
entry_json (server.Gathering kind) ins = codes "\"gathering\""
entry_json (server.Asked request) ins = codes "\"asked\"," ++ asked_json request ins
entry_json (server.Undecoded call) ins =
    codes "\"undecoded\"," ++ request_fault_json call.fault
entry_json (server.LocateAsked request) ins = codes "\"locate_asked\""
entry_json (server.Answered asked reply left) ins =
    codes "\"answered\",\"status\":" ++ decimal (status_of reply.body)
entry_json (server.LocateAnswered target here) ins =
    codes "\"locate_answered\",\"status\":" ++ here_text here
entry_json (server.Delivered request) ins = codes "\"delivered\"," ++ asked_json request ins
entry_json (server.Cancelled answered left) ins = codes "\"cancelled\""

-- what is stored for an id at a server
unfoldable pub server_json : ℕ → ServerEntry → List ℕ → List ℕ
server_json id entry ins =
    codes "{\"id\":" ++ (decimal id ++ (codes ",\"what\":" ++ (entry_json entry ins ++ codes "}")))
