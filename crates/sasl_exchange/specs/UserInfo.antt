-- The user and the password of a URL (URL Standard, section 4.1).
use Rattle.std.specs.Prelude.{ℕ, ◌<◌, List, length, IsUtf8}
use Rattle.percent_encoding.specs.Percent.{percent_decode}
use Rattle.url.specs.Parts.{Parts}

-- both are there, and with their escapes read both are UTF-8
pub record HasUserInfo (url : Parts) : Type 0 where
  pub user : 0 < length url.username
  pub password : 0 < length url.password
  pub user_utf8 : IsUtf8 (percent_decode url.username)
  pub password_utf8 : IsUtf8 (percent_decode url.password)
