-- `frame_texts` is right: each return is a row of the definition, in its order.
use Rattle.documents.proofs.FramedLoads.{texts-header, texts-allow, texts-sandbox, texts-origin, texts-src, texts-good}
use Rattle.documents.proofs.frame_texts.Goals as goal

pub returns-then-header-gt-TEXT_BYTES : goal.returns-then-header-gt-TEXT_BYTES
returns-then-header-gt-TEXT_BYTES c = search texts-header

pub returns-then-allow-gt-TEXT_BYTES : goal.returns-then-allow-gt-TEXT_BYTES
returns-then-allow-gt-TEXT_BYTES c = search texts-allow

pub returns-then-sandbox-gt-TEXT_BYTES : goal.returns-then-sandbox-gt-TEXT_BYTES
returns-then-sandbox-gt-TEXT_BYTES c = search texts-sandbox

pub returns-then-is_none : goal.returns-then-is_none
returns-then-is_none c = search texts-origin

pub returns-then-is_none-2 : goal.returns-then-is_none-2
returns-then-is_none-2 c = search texts-src

pub returns : goal.returns
returns c = search texts-good
