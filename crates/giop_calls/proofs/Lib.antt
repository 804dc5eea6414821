mod ClientGathers
mod ClientStands
mod EqualItems
mod ServerGathers
mod ServerStands
