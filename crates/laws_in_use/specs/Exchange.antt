-- A Request, the Reply to it, and a LocateRequest: the messages that the examples exchange.
use Rattle.std.specs.Prelude.{[], codes}
use Rattle.giop_msg.specs.declared.messages.reply.Reply.{Reply}
use Rattle.giop_msg.specs.declared.messages.reply_body.ReplyBody.TheVariants.{NoException}
use Rattle.giop_msg.specs.declared.messages.request.Request.{Request}
use Rattle.giop_msg.specs.declared.target.Target.TheVariants.{Key}
use Rattle.giop_msg.specs.declared.version.Version.{Version}

-- `ping` of the object `k` is called under the id 7, and an answer is expected
abbrev pub ping : Version → Request
ping version = record {
  head = record {
    version = version;
    id = 7;
    flags = 3;
    target = Key (codes "k");
    operation = codes "ping";
    contexts = [];
  };
  body = [];
}

-- it is answered
abbrev pub pong : Version → Reply
pong version = record { version = version; id = 7; contexts = []; body = NoException [] }
